-- WHAT IS PROMISED of a model of whole numbers alone: where no coefficient is rewritten, the answer has exactly the model's points. Statements only;
-- `Theorem` proves them. Points are signed whole numbers, compared exactly: no tolerance and no rounding enters.
-- Of a float x (floats' `Points`): `Whole x` says that x is a whole number, `int x` is that number, and `x ≼ y` says that x <= y. Of signed whole numbers
-- (floats' `Zed`), `a ⊑ b` says that a is at most b, and `A z` is z's magnitude. `Reading` proves that these mean what they say.
use Rattle.std.specs.Prelude.{ℕ, zero, suc, ◌-◌, ◌≤◌, ◌<◌, ◌≡◌, ◌⊎◌, ◌↔◌, false, ℤ, pos, ◌+ℤ◌, ◌*ℤ◌, length, get_or, take, drop, Float}
use mathlib.Core.List.{List, [], ◌∷◌, Memᴰ}
use Rattle.std.specs.Float.{binary64}
use Rattle.std.specs.Float.Ieee.{round}
use Rattle.floats.specs.Num.{choose, 0f}
use Rattle.floats.specs.Zed.{◌⊑◌}
use Rattle.floats.specs.Points.{int, Whole, Bounded, Held, ◌≼◌}
use Rattle.tolerances.specs.Tol.{Term, at, zip_terms}
use Rattle.definition.specs.Model.{Model, nnz, written, op_of, rhs_of, Emit, Reduced, Answer, infeasible, done}
use Rattle.definition.specs.Accepted.{Shaped}

-- ---- the models
-- the float nearest to 1 / 100
abbrev pub HUNDREDTH : Float
HUNDREDTH = round binary64 false 1 100

-- from 0 to 0.01
pub record Tolerance (x : Float) : Type 0 where
  pub held : Held x
  pub low : 0f ≼ x
  pub high : x ≼ HUNDREDTH

-- 01's "farm model": variables Integer (0) or Boolean (2), and these numbers. `Bounded k x`: x is a finite whole number of magnitude at most k
pub record WholeNumbers (M : Model) : Type 0 where
  pub integral : (v : ℕ) → v < length M.lower → (get_or M.domain v 0 ≡ 0) ⊎ (get_or M.domain v 0 ≡ 2)
  pub lower : (v : ℕ) → v < length M.lower → Bounded 1048576 (at M.lower v)
  pub upper : (v : ℕ) → v < length M.lower → Bounded 1048576 (at M.upper v)
  pub coeff : (k : ℕ) → k < length M.index → Bounded 32768 (at M.coeff k)
  pub rhs : (r : ℕ) → r < length M.rhs → Bounded 1099511627776 (rhs_of M r)
  pub terms : (r : ℕ) → r < length M.rhs → nnz M r ≤ 256
  pub feas : Tolerance M.feas
  pub int_tol : Tolerance M.int_tol
  pub mode : (M.mode ≡ 1) ⊎ (M.mode ≡ 2)

-- such a model of an accepted call
pub record PureInteger (M : Model) : Type 0 where
  pub shape : Shaped M
  pub numbers : WholeNumbers M

-- ---- the points: x gives each variable a signed whole number
-- the sum of a list of terms
unfoldable pub dot : (ℕ → ℤ) → List Term → ℤ
dot x [] = pos 0
dot x (t ∷ ts) = int t.coeff *ℤ x t.var +ℤ dot x ts

-- a sum s against a right side b, by the comparison's code: 0 is =, 1 is ≤, 2 is ≥
abbrev pub Meets : ℕ → ℤ → ℤ → Type 0
Meets zero s b = s ≡ b
Meets (suc zero) s b = s ⊑ b
Meets (suc (suc n)) s b = b ⊑ s

abbrev pub Within : ℕ → List Float → List Float → (ℕ → ℤ) → Type 0
Within n lo hi x = (v : ℕ) → v < n → (int (at lo v) ⊑ x v) × (x v ⊑ int (at hi v))

-- 01's "point": each variable lies within its bounds, and every row is met
pub record Point (M : Model) (x : ℕ → ℤ) : Type 0 where
  pub bounds : Within (length M.lower) M.lower M.upper x
  pub rows : (r : ℕ) → r < length M.rhs → Meets (op_of M r) (dot x (written M r)) (int (rhs_of M r))

-- ---- the answer
-- an emitted row's terms are a part of the model's list, or of the rewritten one
unfoldable pub terms_of : Model → Reduced → Emit → List Term
terms_of M R e =
    let n = e.upto - e.from in
    choose e.rewritten
    (take n (drop e.from R.terms))
    (zip_terms (take n (drop e.from M.index)) (take n (drop e.from M.coeff)))

-- each variable lies within its reduced bounds, and every emitted row is met
pub record MeetsReduced (M : Model) (R : Reduced) (x : ℕ → ℤ) : Type 0 where
  pub bounds : Within (length M.lower) R.lower R.upper x
  pub rows : (e : Emit) → Memᴰ e R.emitted → Meets (op_of M e.row) (dot x (terms_of M R e)) (int e.rhs)

-- every number of the reduced model is whole, so that `int` is its value: the bounds, and each emitted row's right side and coefficients
pub record WholeReduced (M : Model) (R : Reduced) : Type 0 where
  pub lowers : length R.lower ≡ length M.lower
  pub uppers : length R.upper ≡ length M.lower
  pub lower : (v : ℕ) → v < length M.lower → Bounded 1048576 (at R.lower v)
  pub upper : (v : ℕ) → v < length M.lower → Bounded 1048576 (at R.upper v)
  pub rhs : (e : Emit) → Memᴰ e R.emitted → Whole e.rhs
  pub coeff : (e : Emit) → Memᴰ e R.emitted → (t : Term) → Memᴰ t (terms_of M R e) → Whole t.coeff

-- where 01's "no coefficient rewritten" holds, the fourth count being 0: infeasible says that there is no point; a reduced model is of whole numbers, and has the model's points and no others
abbrev pub Exact : Model → Answer → Type 0
Exact M (infeasible k) = k.coeffsTightened ≡ 0 → (x : ℕ → ℤ) → Point M x → ⊥
Exact M (done R) = R.counts.coeffsTightened ≡ 0 → WholeReduced M R × ((x : ℕ → ℤ) → MeetsReduced M R x ↔ Point M x)
