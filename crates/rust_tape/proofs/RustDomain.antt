-- The domain of demand 2 is not empty: a text in which none of the three doubted bytes stands is in it.
-- First, whatever holds at every place holds wherever our parse cuts an unquoted run, and there so does what follows from what holds.
-- Assumes nothing.
use Prim.Native.Nat.{ℕ, zero, suc, ◌+◌, ◌≤◌}
use mathlib.Core.List.{List, []}
use mathlib.Core.Logic.{inr}
use lib.ListN.{length}
use Rattle.tape.specs.Tape.{unbounded}
use Rattle.parse.specs.After.{After, next, done, refused}
use Rattle.machine.specs.Start.{has_bom, start}
use Rattle.parse.specs.Parse.{turn, enough, text_limit}
use Rattle.promises.specs.Room.{tape_of}
use Rattle.promises.proofs.Each.{each_all, each_map}
use Rattle.rust_tape.specs.RustDomain.{InDomain, turn_runs, Along, Throughout, Domain, Plain}
use Rattle.rust_tape.specs.Demand2.{SpokenOf}
use Rattle.rust_tape.proofs.RustParts.{byte_next}

-- ---- what holds at every place holds wherever our parse cuts
module _ (P : ℕ → Type 0) (text : List ℕ) (all : (at : ℕ) → P at) where
  along-all : (n : ℕ) (x : After) → Along P text n x
  along-all zero x = tt
  along-all (suc n) (next m t) = (each_all P all (turn_runs text m), along-all n (turn text t m))
  along-all (suc n) (done c t) = tt
  along-all (suc n) (refused r) = tt

  pub throughout_all : Throughout P text
  throughout_all = along-all (enough text) (next (start (has_bom text)) (tape_of unbounded []))

-- ---- and there so does what follows from what holds
module _ (P Q : ℕ → Type 0) (text : List ℕ) (follows : (at : ℕ) → P at → Q at) where
  along_map : (n : ℕ) (x : After) → Along P text n x → Along Q text n x
  along_map zero x d = tt
  along_map (suc n) (next m t) d = (each_map P Q follows (turn_runs text m) d.0, along_map n (turn text t m) d.1)
  along_map (suc n) (done c t) d = tt
  along_map (suc n) (refused r) d = tt

  pub throughout_map : Throughout P text → Throughout Q text
  throughout_map d = along_map (enough text) (next (start (has_bom text)) (tape_of unbounded [])) d

-- ---- a text with none of the three bytes
module _ (text : List ℕ) (plain : Plain text) where
  run-plain : (at : ℕ) → InDomain text at
  run-plain at = inr (λ k l. rw (byte_next text at k) (plain (at + k)))

  pub plain_in_domain : Domain text
  plain_in_domain = throughout_all (InDomain text) text run-plain

  pub plain_spoken_of : length text ≤ text_limit → SpokenOf text
  plain_spoken_of short = record { within = short; domain = plain_in_domain }
