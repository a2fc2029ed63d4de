-- Some bytes copied over as many others, a part at a time.
-- Assumes nothing.
use mathlib.Core.Path.{◌≡◌, refl, sym, ap, ◌∙◌}
use mathlib.Core.List.{List, ◌++◌}
use Prim.Native.Nat.{ℕ, ◌+◌, ◌-◌, ◌≤◌}
use native.Mathlib.Omega.{arith}
use borrow.Author.Rules.{rules}
use borrow.Rule.Slice.PartMut.{put_mid}
use lib.ListN.{length, take, drop, length-drop}
use lib.Seq.{length-take-le, take-add, take-take, take_all}
use Rattle.std.proofs.lemmas.Slice.{overwrites, take-put_mid}

module _ (out bytes part : List ℕ) (k m : ℕ) (same : length out ≡ length bytes) (room : k + m ≤ length bytes)
    (copied : part ≡ take (k + m - k) (drop k bytes)) where
  part_size : length part ≡ m
  part_size = ap length copied ∙ length-take-le (k + m - k) (drop k bytes) (omega (arith, length-drop k bytes)) ∙ omega arith

  pub still : length (put_mid k (k + m - k) out part) ≡ length bytes
  still = let size : length part ≡ m = part_size in search (rules, overwrites)

  -- where the first k bytes stand and the next m are copied, the first k + m stand
  pub more : {n : ℕ} → n ≡ k + m → take k out ≡ take k bytes → take n (put_mid k (k + m - k) out part) ≡ take n bytes
  more {n} end before =
      let size : length part ≡ m = part_size in
      let next : part ≡ take m (drop k bytes) = copied ∙ ap (λ (n : ℕ). take n (drop k bytes)) {x = k + m - k} {y = m} (omega arith) in
      take-put_mid k (k + m - k) out part n (omega arith) (omega arith)
      ∙ ap (λ (l : List ℕ). l ++ part) before ∙ ap (λ (l : List ℕ). take k bytes ++ l) next ∙ sym (take-add k m bytes)
      ∙ ap (λ (l : ℕ). take l bytes) (sym end)

  -- and where those are the last, all stand, whatever stood of them before
  pub all_stand : {i : ℕ} → k + m ≡ length bytes → k ≤ i → take i out ≡ take i bytes → put_mid k (k + m - k) out part ≡ bytes
  all_stand {i} whole early e =
      sym (take_all (k + m) (put_mid k (k + m - k) out part) (omega (arith, still)))
      ∙ more refl (sym (take-take k i out early) ∙ ap (take k) e ∙ take-take k i bytes early)
      ∙ take_all (k + m) bytes (omega arith)
