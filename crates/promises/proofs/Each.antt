-- What keeps what holds of each element of a list, and of each of some tokens.
-- Assumes nothing.
use mathlib.Core.List.{List, [], ◌∷◌, ◌++◌}
use Prim.Native.Nat.{ℕ, zero, suc}
use lib.ListN.{set}
use Rattle.tape.specs.declared.token.Token.{Token}
use Rattle.tape.specs.Token.{no_token, nth}
use Rattle.tape.specs.Tape.{before_last}
use Rattle.promises.specs.Each.{Each}

-- what holds of all holds of each, and with it what follows
pub each_all : {A : Type 0} (P : A → Type 0) → ((x : A) → P x) → (xs : List A) → Each P xs
each_all P all [] = tt
each_all P all (x ∷ xs) = (all x, each_all P all xs)

pub each_map : {A : Type 0} (P Q : A → Type 0) → ((x : A) → P x → Q x) → (xs : List A) → Each P xs → Each Q xs
each_map P Q follows [] e = tt
each_map P Q follows (x ∷ xs) e = (follows x e.0, each_map P Q follows xs e.1)

module _ (P : Token → Type 0) where
  -- one token more
  pub each-add : (ts : List Token) (x : Token) → P x → Each P ts → Each P (ts ++ (x ∷ []))
  each-add [] x h e = (h, tt)
  each-add (t ∷ ts) x h e = (e.0, each-add ts x h e.1)

  -- one changed
  pub each_set : (ts : List Token) (i : ℕ) (x : Token) → P x → Each P ts → Each P (set ts i x)
  each_set [] i x h e = tt
  each_set (t ∷ ts) zero x h e = (h, e.1)
  each_set (t ∷ ts) (suc i) x h e = (e.0, each_set ts i x h e.1)

  -- one put in before the last
  pub each-before_last : (ts : List Token) (x : Token) → P x → Each P ts → Each P (before_last ts x)
  each-before_last [] x h e = (h, tt)
  each-before_last (t ∷ []) x h e = (h, e)
  each-before_last (t ∷ u ∷ ts) x h e = (e.0, each-before_last (u ∷ ts) x h e.1)

  -- so it holds of the token at any index, where it holds of the token of zeros
  pub each_at : (ts : List Token) (i : ℕ) → P no_token → Each P ts → P (nth ts i)
  each_at [] i h e = h
  each_at (t ∷ ts) zero h e = e.0
  each_at (t ∷ ts) (suc i) h e = each_at ts i h e.1
