-- SAVELSBERGH'S ACTIVITY, EVERYWHERE: in every state that presolve reaches on a farm model, in modes 1 and 2, the activity of a row that is not rewritten is
-- the exact smallest and largest value of the row over the box, with both infinite counts 0: `activity_exact`. Other rows may have been rewritten or given back
-- by then, and variables dually fixed. No point has to be kept for it, so it holds where `Invariant` ends.
use Rattle.std.specs.Prelude.{ℕ, ◌<◌, ◌≡◌, Bool, false, length, get_or}
use Rattle.std.proofs.Common.{arith, sym, subst, ◌∙◌, length-set}
use Rattle.std.proofs.Math.Decide.{dec_lt}
use Rattle.std.proofs.Math.ListN.{get_or-eq_default}
use Rattle.definition.specs.Model.{Model, Row, Reduced, done}
use Rattle.definition.specs.Work.{Work, no_row, drop_row}
use Rattle.definition.specs.Activities.{activity}
use Rattle.definition.specs.Emit.{Out}
use Rattle.definition.specs.Presolve.{presolve}
use Rattle.rows_kept.specs.Kept.{Kept}
use Rattle.rows_kept.specs.Whole.{reduced}
use Rattle.rows_kept.proofs.AllRows.{read_size}
use Rattle.rows_kept.specs.States.{Reaches, Answered, reduced_to}
use Rattle.rows_kept.proofs.States.{reached_kept, answer_reached}
use Rattle.points_kept.specs.Statements.{PureInteger}
use Rattle.points_kept.specs.Invariant.{IntervalAt}
use Rattle.points_kept.specs.ActivityExact.{ActivityExact}
use Rattle.points_kept.proofs.ActivityExact.{activity_exact_of}
use Rattle.points_kept.specs.WholeBox.{BoxW}
use Rattle.points_kept.proofs.WholeBox.{box_reached}
use Rattle.points_kept.specs.UnrewrittenRows.{Unrewritten}
use Rattle.points_kept.proofs.UnrewrittenRows.{rows_reached}
use Rattle.points_kept.specs.ActivityEverywhere.{AsMany, WholeBounds}

pub many_kept : (M : Model) → Kept M (AsMany M)
unfolding drop_row
many_kept M =
    record {
      bounding = record { marking = record { marks = λ w d c q p. p; counted = λ w a b c p. p }; works = λ w a b p. p; lowers = λ w v x i b p. p; uppers = λ w v x i b p. p };
      rowing = record { changes = λ w r row a c p. length-set w.rows r row ∙ p; drops = λ w r row g a p. length-set w.rows r _ ∙ p };
    }

pub no_more : (M : Model) {w : Work} → Reaches M w → AsMany M w
no_more M h = reached_kept M (many_kept M) (λ w p. p) (λ ls hs rows queue dirty n k. read_size k) h

module _ (M : Model) (pure : PureInteger M) where
  -- the terms of a row that is not rewritten, and its folded ones, are the model's terms of that row, zero coefficients apart
  pub terms_everywhere : (w : Work) → Reaches M w → (r : ℕ) → r < length M.rhs → (get_or w.rows r no_row).touched ≡ false
      → Unrewritten M r (get_or w.rows r no_row).terms (get_or w.rows r no_row).folded
  terms_everywhere w h r l t = rows_reached M pure h r l t

  -- THE THEOREM. Of either kind of bounds; they are the same numbers here
  pub activity_exact : (w : Work) → Reaches M w → (r : ℕ) → (get_or w.rows r no_row).touched ≡ false → (working : Bool)
      → ActivityExact M w (get_or w.rows r no_row).terms (activity M w (get_or w.rows r no_row) working)
  activity_exact w h r t working =
      let box : (v : ℕ) → v < length M.lower → IntervalAt w.wlo w.whi w.elo w.ehi v = λ v k. ((box_reached M pure h).boxed v k).interval in
      elim (dec_lt r (length M.rhs)) [
        | yes l ↦ (let u = terms_everywhere w h r l t in activity_exact_of M pure w box (get_or w.rows r no_row) working u.count u.terms u.distinct)
        | no l ↦ subst (λ (row : Row). ActivityExact M w row.terms (activity M w row working))
            (sym (get_or-eq_default w.rows no_row (omega (arith, no_more M h))))
            (activity_exact_of M pure w box no_row working (omega arith) tt (λ i j a b e. absurd (omega arith)))
      ]

pub box_whole : (M : Model) (w : Work) (o : Out) → BoxW M w → WholeBounds M (reduced M w o)
box_whole M w o b =
    record {
      lowers = b.el_length;
      uppers = b.eh_length;
      lower = λ v h. (b.boxed v h).interval.lo;
      upper = λ v h. (b.boxed v h).interval.hi;
      above = λ v h. (b.boxed v h).lower;
      ordered = λ v h. (b.boxed v h).interval.order;
      below = λ v h. (b.boxed v h).upper;
    }

pub answer_whole : (M : Model) → PureInteger M → {R : Reduced} → presolve M ≡ done R → WholeBounds M R
answer_whole M pure e = of_answer (subst (Answered M) e (answer_reached M))
  where
    of_answer : {R : Reduced} → Answered M (done R) → WholeBounds M R
    of_answer (reduced_to w o h) = box_whole M w o (box_reached M pure h)
