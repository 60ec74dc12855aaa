-- `singleton_row`: a row of one term. The bounds that it leaves its variable lose none of the points sought, and it is dropped only where they
-- meet it.
use Rattle.std.specs.Prelude.{ℕ, Bool, not, T, ℤ, List, set}
use Rattle.std.specs.Float.Ieee.{Float}
use Rattle.floats.specs.Num.{◌⊘◌, is_finite, minf, maxf}
use Rattle.floats.specs.Points.{int, Is}
use Rattle.tolerances.specs.Tol.{at}
use Rattle.definition.specs.Model.{Model, op_of, Row}
use Rattle.definition.specs.Work.{Work}
use Rattle.definition.specs.Singles.{new_lower, new_upper}
use Rattle.points_kept.specs.PointSet.{PointSet}
use Rattle.points_kept.specs.Statements.{dot}
use Rattle.points_kept.specs.Invariant.{Sided, Good}
use Rattle.points_kept.specs.WorkingRow.{AtWork}
use Rattle.points_kept.specs.Quotients.{AtMost, AtLeast}

module _ {M : Model} {Sought : PointSet} {w0 : Work} {r : ℕ} {row : Row} (σ : AtWork M Sought w0 r row) (a : Float) where
  -- ---- a side of the row, d, that bounds the variable at one end, or leaves it free there
  pub record End (free? : Bool) (d : Float) : Type 0 where
    pub shut : T (not free?) → Is d σ.ok.b
    pub free : T free? → T (is_finite (d ⊘ a)) → ⊥

  -- what an end asks of a value
  abbrev pub Above : Bool → ℤ → Type 0
  Above free? x = T (not free?) → AtLeast (int a) σ.ok.b x

  abbrev pub Below : Bool → ℤ → Type 0
  Below free? x = T (not free?) → AtMost (int a) σ.ok.b x

  -- the two ends together are the row
  abbrev pub Joined : ℕ → Bool → Bool → Type 0
  Joined v fl fu = (x : ℕ → ℤ) → Above fl (x v) → Below fu (x v) → Sided (op_of M r) (dot x row.terms) σ.ok.b

  -- ---- the new bounds, from the row's sides blo and bhi: none of the points sought lies beyond them
  module _ (v : ℕ) (blo bhi : Float) where
    abbrev pub new_lo : Float
    new_lo = new_lower M r row a blo (at w0.elo v)

    abbrev pub new_hi : Float
    new_hi = new_upper M r row a bhi (at w0.ehi v)

    -- and the working ones that go with them
    abbrev pub work_lo : Float
    work_lo = minf (maxf (at w0.wlo v) new_lo) new_hi

    abbrev pub work_hi : Float
    work_hi = maxf (minf (at w0.whi v) new_hi) new_lo

    -- the invariant with v's bounds put there
    abbrev pub GoodPut : List Row → Type 0
    GoodPut rows = Good M Sought (set w0.wlo v work_lo) (set w0.whi v work_hi) (set w0.elo v new_lo) (set w0.ehi v new_hi) rows
