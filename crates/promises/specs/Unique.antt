-- What is said of each public call: any two results that its contract allows are equal, and so is what it leaves behind. A contract is
-- taken by the claim `Post` that the toolchain reads off its `ensures`: of the lifetimes, the arguments, the result and the parameters
-- as they are left.
use Rattle.std.specs.Prelude.{ℕ, ◌≡◌, List}

-- what a contract claims at exit allows one result
abbrev pub OneResult : {K : Type 0} {A R X : K → Type 0} → ((κs : K) → A κs → R κs → X κs → Type 0) → Type 0
OneResult {K} {A} {R} {X} Post = (κs : K) (args : A κs) (r s : R κs) (xs ys : X κs) → Post κs args r xs → Post κs args s ys → r ≡ s

-- and leaves one tape, one buffer or one number behind, by what of the parameters is asked for
abbrev pub OneLeft : {K Value : Type 0} {A R X : K → Type 0} → ((κs : K) → A κs → R κs → X κs → Type 0)
    → ((κs : K) → X κs → Value) → Type 0
OneLeft {K} {Value} {A} {R} {X} Post left =
    (κs : K) (args : A κs) (r s : R κs) (xs ys : X κs) → Post κs args r xs → Post κs args s ys → left κs xs ≡ left κs ys

-- and hands out one part of a slice: its bytes, and where it lies; what is left is a name that no program sees
abbrev pub OnePart : {K : Type 0} {A R X : K → Type 0} → ((κs : K) → A κs → R κs → X κs → Type 0)
    → ((κs : K) → R κs → List ℕ) → ((κs : K) → R κs → ℕ × ℕ) → Type 0
OnePart {K} {A} {R} {X} Post bytes place =
    (κs : K) (args : A κs) (r s : R κs) (xs ys : X κs) → Post κs args r xs → Post κs args s ys
    → (bytes κs r ≡ bytes κs s) × (place κs r ≡ place κs s)

-- and hands out one run of bytes of its own, wherever they lie
abbrev pub OneRun : {K : Type 0} {A R X : K → Type 0} → ((κs : K) → A κs → R κs → X κs → Type 0)
    → ((κs : K) → R κs → List ℕ) → Type 0
OneRun {K} {A} {R} {X} Post bytes =
    (κs : K) (args : A κs) (r s : R κs) (xs ys : X κs) → Post κs args r xs → Post κs args s ys → bytes κs r ≡ bytes κs s

-- and puts one line of bytes: the place after it, and the buffer
abbrev pub OneLine : {K : Type 0} {A R X : K → Type 0} → ((κs : K) → A κs → R κs → X κs → Type 0)
    → ((κs : K) → X κs → List ℕ) → Type 0
OneLine Post out = OneResult Post × OneLeft Post out
