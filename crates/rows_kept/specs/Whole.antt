-- The whole of presolve: how it starts, and what a property of the state and one of what is out say of the answer.
use Prim.Native.Nat.{ℕ, suc, ◌≤◌}
use Rattle.std.specs.Prelude.{◌≡◌, Bool, true, false, length, set, Float}
use mathlib.Core.List.{List, [], ◌∷◌, ◌++◌}
use Rattle.tolerances.specs.Tol.{at}
use Rattle.definition.specs.declared.Counts.{Counts}
use Rattle.definition.specs.Params.{max_waves}
use Rattle.definition.specs.Model.{Model, is_int, Row, with_alive, as_written, counts, passed, Reduced, Answer, infeasible, done}
use Rattle.definition.specs.Work.{Work, with_counts, trivial}
use Rattle.definition.specs.Begin.{rounded_lower, rounded_upper, Bounds, cross, bounds, Rows, false_row, rows_are}
use Rattle.definition.specs.Emit.{Out, no_out, final, differs}
use Rattle.rows_kept.specs.Kept.{Kept}
use Rattle.rows_kept.specs.Outs.{Goes}

-- ---- the bounds after rounding: an integer variable's were rounded, in some order
pub data Rounded (M : Model) : List Float → List Float → Type 0 where
  as_given : Rounded M M.lower M.upper
  rounded : {ls hs : List Float} (v : ℕ) → is_int M v ≡ true → Rounded M ls hs → Rounded M (set ls v (rounded_lower M.int_tol (at ls v))) (set hs v (rounded_upper M.int_tol (at hs v)))

-- ---- the first n rows read: the rows, the queue, and how many are trivially true
pub data Read (M : Model) : ℕ → List Row → List ℕ → ℕ → Type 0 where
  unread : Read M 0 [] [] 0
  queues : {r n : ℕ} {rows : List Row} {queue : List ℕ} → trivial M r ≡ false → Read M r rows queue n → Read M (suc r) (rows ++ (as_written M r ∷ [])) (queue ++ (r ∷ [])) n
  drops : {r n : ℕ} {rows : List Row} {queue : List ℕ} → trivial M r ≡ true → Read M r rows queue n → Read M (suc r) (rows ++ (with_alive false (as_written M r) ∷ [])) queue (suc n)

pub data RoundedB (M : Model) : Bounds → Type 0 where
  crosses : RoundedB M cross
  rounds_to : {ls hs : List Float} → Rounded M ls hs → RoundedB M (bounds ls hs)

pub data ReadR (M : Model) (r : ℕ) : Rows → Type 0 where
  fails_at : {n : ℕ} → ReadR M r (false_row n)
  reads : {rows : List Row} {queue : List ℕ} {dirty : List Bool} {n : ℕ} → Read M r rows queue n → ReadR M r (rows_are rows queue dirty n)

-- ---- the state that the rounds start from
abbrev pub begun : List Float → List Float → List Row → List ℕ → List Bool → ℕ → Work
begun ls hs rows queue dirty n =
    record { wlo = ls; whi = hs; elo = ls; ehi = hs; rows = rows; dirty = dirty; coeff_dirty = dirty; queue = queue; counts = counts n 0 0 0 0 }

-- a property of the state holds from the start to the end
pub record HeldThroughout (M : Model) (P : Work → Type 0) : Type 0 where
  pub kept : Kept M P
  pub passes : (w : Work) → P w → P (with_counts (passed w.counts) w)
  pub begins : (ls hs : List Float) (rows : List Row) (queue : List ℕ) (dirty : List Bool) (n : ℕ) → Rounded M ls hs → Read M (length M.rhs) rows queue n → P (begun ls hs rows queue dirty n)

-- a property of the state and of what is out, over a held one
pub record Emitted (M : Model) (P : Work → Type 0) (J : ℕ → Work → Out → Type 0) : Type 0 where
  pub held : HeldThroughout M P
  pub none : (w : Work) → P w → J 0 w no_out
  pub goes : (r : ℕ) (w v : Work) (o x : Out) → P w → P v → Goes M r w o (final v x) → J r w o → J (suc r) v x

-- the answer of a state and of what is out
abbrev pub reduced : Model → Work → Out → Reduced
reduced M w o = record { counts = w.counts; lower = w.elo; upper = w.ehi; emitted = o.emitted; terms = o.terms; kept = o.kept; flag = differs M w o }

-- ---- what an answer comes from
pub data From (M : Model) (P : Work → Type 0) (J : ℕ → Work → Out → Type 0) : Answer → Type 0 where
  gave_up : {k : Counts} → k.passes ≤ max_waves M.params → From M P J (infeasible k)
  found : (w : Work) (o : Out) → w.counts.passes ≤ max_waves M.params → P w → J (length M.rhs) w o → From M P J (done (reduced M w o))

module _ (M : Model) {P : Work → Type 0} {J : ℕ → Work → Out → Type 0} (E : Emitted M P J) where
  pub record I (r : ℕ) (w : Work) (o : Out) : Type 0 where
    pub capped : w.counts.passes ≤ max_waves M.params
    pub holds : P w
    pub out : J r w o
