-- Any sheet as a forest: tokens in a row, and containers around forests.
use Rattle.std.specs.Prelude.{ℕ, zero, suc, ◌+◌, ◌-◌, Bool, true, false, List, ltb, length, Some, None}
use Rattle.tape.specs.declared.token.Token.{Token}
use Rattle.tape.specs.declared.token.ContainerKind.{ContainerKind}
use Rattle.tape.specs.Token.{container_of, nth}

-- nothing more; a token that opens nothing, and what follows it; a container of a kind, with its flag, around what stands in it, and
-- what follows it
pub data Forest : Type 0 where
  no_more : Forest
  leaf : Token → Forest → Forest
  box : ContainerKind → Bool → Forest → Forest → Forest

-- the forest of the tokens from i up to j, links taken at their word, in so many turns
unfoldable pub forest_in : ℕ → List Token → ℕ → ℕ → Forest
forest_in zero ts i j = no_more
forest_in (suc n) ts i j =
    elim (ltb i j) [
      | true ↦ elim (container_of (nth ts i)) [
        | Some container ↦ box container.kind container.mixed (forest_in n ts (i + 1) container.link) (forest_in n ts (container.link + 1) j)
        | None ↦ leaf (nth ts i) (forest_in n ts (i + 1) j)
      ]
      | false ↦ no_more
    ]

-- the forest of the tokens from i up to j: as many turns as there are tokens are enough, and more change nothing
unfoldable pub stretch : List Token → ℕ → ℕ → Forest
stretch ts i j = forest_in (j - i) ts i j

-- the forest of a sheet
unfoldable pub forest_of : List Token → Forest
forest_of ts = stretch ts 0 (length ts)
