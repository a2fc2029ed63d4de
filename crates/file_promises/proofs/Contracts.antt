-- What the contracts of `write` and `read` allow are calls of which the promises are told.
-- Assumes nothing.
use lib.ListN.{length}
use Prim.Native.Nat.{ℕ}
use Rattle.std.specs.Prelude.{Result}
use Rattle.file.specs.declared.Refusal.{Refusal}
use Rattle.file.specs.declared.Found.{Found}
use Rattle.file.specs.Files.{left}
use Rattle.file.proofs.write.Reads as write
use Rattle.file.proofs.read.Reads as read
use Rattle.file_promises.specs.Calls.{WriteCall, Writes, ReadCall, ReadsSo}

module _ (κs : _) (args : _) (r : Result ℕ Refusal) (xs : _) (post : write.Post κs args r xs) where
  abbrev pub writing : WriteCall
  writing = record {
    text_length = args.0;
    words = args.1.0.now;
    count = args.1.1.0;
    room = length args.1.1.1.0.now;
    written = left r xs.1.1.1.0.now;
  }

  pub write_meets : Writes writing
  write_meets = post

module _ (κs : _) (args : _) (r : Result Found Refusal) (xs : _) (post : read.Post κs args r xs) where
  abbrev pub reading : ReadCall
  reading = record {
    bytes = args.0.now;
    room = length args.1.0.now;
    found = left r xs.1.0.now;
  }

  pub read_meets : ReadsSo reading
  read_meets = post
