-- The powers of ten that an f64 holds exactly: ten to the k is five to the k, k binary places up.
-- Assumes nothing.
use Rattle.std.proofs.Common.{◌≡◌, ℕ, zero, suc, ◌+◌, ◌^◌, ◌<◌, ◌≤◌, true, false, List, [], ◌∷◌, get_or, pos, negsuc, sym, refl, ap, ◌∙◌, le_of_suc-le-suc, not-suc-le-zero, add-zero, add-suc, suc-add, zero-add, arith}
use lib.Ieee.{Float, nan, fin, binary64, of_int, of_bits, neg}
use Rattle.scalar.specs.Float.{factor}

-- n values of a function, from b up
abbrev values : (ℕ → Float) → ℕ → ℕ → List Float
values f b zero = []
values f b (suc n) = f b ∷ values f (suc b) n

value_at : (f : ℕ → Float) (n b k : ℕ) → k < n → get_or (values f b n) k nan ≡ f (b + k)
value_at f zero b k h = absurd (not-suc-le-zero h)
value_at f (suc n) b zero h = ap f (sym (add-zero b))
value_at f (suc n) b (suc k) h = value_at f n (suc b) k (le_of_suc-le-suc h) ∙ ap f (suc-add b k ∙ sym (add-suc b k))

-- five to the k, k binary places up
abbrev fives : ℕ → Float
fives k = fin false (5 ^ k) (pos k)

-- ten to the k, rounded
abbrev tens : ℕ → Float
tens k = of_int binary64 (pos (10 ^ k))

-- the table, as its bits have it
abbrev pub table : List Float
table =
    of_bits binary64 4607182418800017408 ∷ of_bits binary64 4621819117588971520 ∷ of_bits binary64 4636737291354636288
    ∷ of_bits binary64 4652007308841189376 ∷ of_bits binary64 4666723172467343360 ∷ of_bits binary64 4681608360884174848
    ∷ of_bits binary64 4696837146684686336 ∷ of_bits binary64 4711630319722168320 ∷ of_bits binary64 4726483295884279808
    ∷ of_bits binary64 4741671816366391296 ∷ of_bits binary64 4756540486875873280 ∷ of_bits binary64 4771362005757984768
    ∷ of_bits binary64 4786511204640096256 ∷ of_bits binary64 4801453603149578240 ∷ of_bits binary64 4816244402031689728
    ∷ of_bits binary64 4831355200913801216 ∷ of_bits binary64 4846369599423283200 ∷ of_bits binary64 4861130398305394688
    ∷ of_bits binary64 4876203697187506176 ∷ of_bits binary64 4891288408196988160 ∷ of_bits binary64 4906019910204099648
    ∷ of_bits binary64 4921056587992461136 ∷ of_bits binary64 4936209963552724370 ∷ []

table-fives : table ≡ values fives 0 23
unfolding of_bits
table-fives = refl

tens-fives : values tens 0 23 ≡ values fives 0 23
unfolding of_int
tens-fives = refl

-- an entry of the table is ten to its place, which no rounding touched
pub power_at : (k : ℕ) → k ≤ 22 → get_or table k nan ≡ of_int binary64 (pos (10 ^ k))
power_at k h =
    ap (λ (l : List Float). get_or l k nan) (table-fives ∙ sym tens-fives)
    ∙ value_at tens 23 0 k (omega arith)
    ∙ ap tens (zero-add k)

one_bits : of_bits binary64 4607182418800017408 ≡ fin false 1 (pos 0)
unfolding of_bits
one_bits = refl

one_int : of_int binary64 (pos 1) ≡ fin false 1 (pos 0)
unfolding of_int
one_int = refl

minus_one_int : of_int binary64 (negsuc 0) ≡ fin true 1 (pos 0)
unfolding of_int
minus_one_int = refl

-- the bits of 1.0 are one
pub one-is : of_bits binary64 4607182418800017408 ≡ factor false
unfolding factor
one-is = one_bits ∙ sym one_int

-- and negated they are minus one
pub minus_one_is : neg (of_bits binary64 4607182418800017408) ≡ factor true
unfolding factor neg
minus_one_is = ap neg one_bits ∙ sym minus_one_int
