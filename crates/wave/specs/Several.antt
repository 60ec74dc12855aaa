-- A row of two terms or more, by the ways through the code; and that it keeps the invariant.
use Rattle.std.specs.Prelude.{ℕ, ◌+◌, ◌-◌, ◌≡◌, Bool, not, ◌||◌, List, get_or, Float, Result, Ok, Err}
use Rattle.std.proofs.Common.{arith, sym, ◌∙◌}
use Rattle.std.proofs.Math.Path.{refl, ap}
use Rattle.std.proofs.Math.Bool.{true, false}
use Rattle.floats.specs.Num.{choose}
use Rattle.definition.specs.declared.Activity.{Activity}
use Rattle.definition.specs.declared.Infeasible.{Infeasible}
use Rattle.definition.specs.Model.{Model, Row}
use Rattle.definition.specs.Work.{Work, Step, stop, next, no_row, drop_row}
use Rattle.definition.specs.Activities.{activity}
use Rattle.definition.specs.Sides.{within, above_hi, below_lo, near_min, near_max, unreachable, redundant}
use Rattle.definition.specs.Forcing.{forces_min, forces_max, fix_all}
use Rattle.definition.specs.Implied.{implied_bounds}
use Rattle.definition.specs.Wave.{several_terms}
use Rattle.space.specs.declared.Context.{Context}
use Rattle.space.specs.Store.{Floats, Numbers}
use Rattle.wave.specs.declared.several.Ending.{Ending}
use Rattle.wave.specs.declared.several.Ending.TheVariants.{ForceMin, ForceMax, Drop, Open}
use Rattle.formulas.specs.declared.Limits.{Limits}
use Rattle.formulas.specs.Bare.{bare, Of, Says, ByParams, unreachable_of, redundant_of}
use Rattle.formulas.specs.Reduce.{may_reduce, may_reduce_of, several_of}
use Rattle.view.specs.declared.Lists.{Lists}
use Rattle.view.specs.Call.{Call}
use Rattle.view.specs.Shows.{Shows, Outcome}
use Rattle.view.specs.Inv.{Inv}
use Rattle.view.specs.Lists.{yes, no, either}
use Rattle.view.specs.Acts.{Acts, ActsN, Any, Tries, Reads, acts_then}
use Rattle.view.specs.Steps.{InvStep, stops, goes}
use Rattle.view.specs.Known.{Spans}
use Rattle.view.specs.Bounds.{went_by, stopped_by}
use Rattle.readers.specs.Reading.{row_of, Alive}
use Rattle.readers.specs.Limits.{ReadsLimits}
use Rattle.readers.specs.Knowing.{Looks, Marks, BoundingRows, looks_spans, moves_spans, moves_looks, moves_marks, of_limits}
use Rattle.view.specs.Renamed.{tries_as, acts_as, acts_any}
use Rattle.bounds.specs.Same.{passes_of, rows_blind, passes_blind, Leaves, halts, same}
use Rattle.bounds.specs.Drop.{inv_drop, drop_passes}
use Rattle.implied.specs.Loop.{inv_bounds, leaves_bounds}
use Rattle.forcing.specs.Fixing.{fix_all_keeps, fix_all_leaves, inv_fix_all}

-- ---- the definition, by what becomes of the row
-- forcing (the low side only where the high side gave nothing), redundant, or neither
unfoldable pub end_of : Model → ℕ → Row → Activity → Activity → Work → Ending
end_of M r row act e w = choose (forces_min M r row act e w) ForceMin (choose (forces_max M r row act e w) ForceMax (choose (redundant M row act e) Drop Open))

-- where the working activity rules out both, the row stays open
unfoldable pub end_if : Bool → Ending → Ending
end_if true x = x
end_if false x = Open

unfoldable ended : Model → ℕ → Row → Activity → Work → Ending → Step
ended M r row act w ForceMin = next (drop_row r row (fix_all M true w row.terms w))
ended M r row act w ForceMax = next (drop_row r row (fix_all M false w row.terms w))
ended M r row act w Drop = next (drop_row r row w)
ended M r row act w Open = implied_bounds M r row act row.terms w

module _ {A B : Type 0} (g : A → B) where
  through : (b : Bool) (x y : A) → g (choose b x y) ≡ choose b (g x) (g y)
  unfolding choose
  through true x y = refl
  through false x y = refl

several_is : (M : Model) (r : ℕ) (row : Row) (w : Work)
    → several_terms M r row w ≡ choose (unreachable M r row (activity M w row true)) (stop w.counts)
    (ended M r row (activity M w row true) w (end_of M r row (activity M w row true) (activity M w row false) w))
unfolding several_terms end_of ended
several_is M r row w =
    let act = activity M w row true in
    let e = activity M w row false in
    let g = ended M r row act w in
    let a = through g (forces_min M r row act e w) ForceMin (choose (forces_max M r row act e w) ForceMax (choose (redundant M row act e) Drop Open)) in
    let b = through g (forces_max M r row act e w) ForceMax (choose (redundant M row act e) Drop Open) in
    let d = through g (redundant M row act e) Drop Open in
    rw (a, b, d) refl

-- ---- force_row
pub force_acts : {P : Model → Type 0} {s : Context} {f f₁ : Floats} {n n₁ n₂ : Numbers} (minCorner : Bool) (r : ℕ) → Acts P s f n f₁ n₁
    (λ M w. fix_all M minCorner w (row_of w r).terms w) → ActsN Any s n₁ n₂ (λ M w. drop_row r (row_of w r) w)
    → Acts P s f n f₁ n₂ (λ M w. drop_row r (row_of w r) (fix_all M minCorner w (row_of w r).terms w))
force_acts minCorner r t u =
    acts_as
    (λ M o k w p c h i.
    let v = fix_all M minCorner w (row_of w r).terms w in
    ap (λ (x : Row). drop_row r x v) (ap (λ (l : List Row). get_or l r no_row) (sym (fix_all_leaves rows_blind M minCorner w (row_of w r).terms w))))
    (acts_then t (fix_all_keeps minCorner r) (acts_any u))

-- ---- ending
pub end_skips : {P : Model → Type 0} {s : Context} {f : Floats} {n : Numbers} (b : Bool) (F : Model → Work → Ending) → not b ≡ true → Reads P s f n Open (λ M w. end_if b (F M w))
unfolding end_if
end_skips false F t = record { reads = λ M o k w p c h i. refl }
end_skips true F t = absurd (let z : ◌≡◌ {A = ℕ} 0 1 = (let y = t in cc) in omega arith)

holds : (b : Bool) → not b ≡ false → b ≡ true
holds true t = refl
holds false t = absurd (let z : ◌≡◌ {A = ℕ} 0 1 = (let y = t in cc) in omega arith)

module _ {lists : Lists} {s : Context} {f : Floats} {n : Numbers} (r : ℕ) (act : Activity) {e : Activity} {b : Bool} (a : Bool) (t : not a ≡ false)
    (ea : Reads (Spans lists.rows.starts.now) s f n e (λ M w. activity M w (row_of w r) false))
    (eb : Reads (Looks lists) s f n b (λ M w. choose true (forces_min M r (row_of w r) act e w) (forces_max M r (row_of w r) act e w))) where
  reads_end : {z : Ending} → ((M : Model) (o : List ℕ) (k : ℕ) (w : Work) → Looks lists M → Call M s → Shows M f n o w → Inv M k w → end_of M r (row_of w r) act e w ≡ z)
      → Reads (Looks lists) s f n z (λ M w. end_if a (end_of M r (row_of w r) act (activity M w (row_of w r) false) w))
  unfolding end_if
  reads_end g =
      record { reads = λ M o k w p c h i. rw (holds a t) (ap (λ (y : Activity). end_of M r (row_of w r) act y w) (ea.reads M o k w (looks_spans M p) c h i) ∙ g M o k w p c h i) }

  pub end_min : b ≡ true → Reads (Looks lists) s f n ForceMin (λ M w. end_if a (end_of M r (row_of w r) act (activity M w (row_of w r) false) w))
  unfolding end_of choose
  end_min v = reads_end (λ M o k w p c h i. yes _ _ (eb.reads M o k w p c h i ∙ v))

  module _ {d : Bool} (v : b ≡ false) (ed : Reads (Looks lists) s f n d (λ M w. choose false (forces_min M r (row_of w r) act e w) (forces_max M r (row_of w r) act e w))) where
    pub end_max : d ≡ true → Reads (Looks lists) s f n ForceMax (λ M w. end_if a (end_of M r (row_of w r) act (activity M w (row_of w r) false) w))
    unfolding end_of choose
    end_max u = reads_end (λ M o k w p c h i. no _ _ (eb.reads M o k w p c h i ∙ v) ∙ yes _ _ (ed.reads M o k w p c h i ∙ u))

    module _ {x : Limits} {l : ℕ} {g : Bool} (al : Alive n r) (u : d ≡ false) (lim : ReadsLimits s f r l x) (eg : ByParams g (λ M. redundant M (bare x) act e)) where
      redundant_is : {M : Model} {o : List ℕ} {w : Work} → Call M s → Shows M f n o w → redundant M (row_of w r) act e ≡ g
      redundant_is {M} {o} {w} c h = sym (eg.of M c.params ∙ redundant_of M act e (lim.has M n o w c h al))

      pub end_drop : g ≡ true → Reads (Looks lists) s f n Drop (λ M w. end_if a (end_of M r (row_of w r) act (activity M w (row_of w r) false) w))
      unfolding end_of choose
      end_drop q = reads_end (λ M o k w p c h i. no _ _ (eb.reads M o k w p c h i ∙ v) ∙ no _ _ (ed.reads M o k w p c h i ∙ u) ∙ yes _ _ (redundant_is c h ∙ q))

      pub end_open : g ≡ false → Reads (Looks lists) s f n Open (λ M w. end_if a (end_of M r (row_of w r) act (activity M w (row_of w r) false) w))
      unfolding end_of choose
      end_open q = reads_end (λ M o k w p c h i. no _ _ (eb.reads M o k w p c h i ∙ v) ∙ no _ _ (ed.reads M o k w p c h i ∙ u) ∙ no _ _ (redundant_is c h ∙ q))

-- ---- reach_of
-- no point is left, or whether the row may be forcing or redundant
unfoldable pub reached : Bool → Bool → Result Bool Infeasible
reached true a = Err (record {})
reached false a = Ok a

reached_err : (b a : Bool) {e : Infeasible} → Err e ≡ reached b a → b ≡ true
unfolding reached
reached_err true a t = refl
reached_err false a t = absurd (let z : ◌≡◌ {A = ℕ} 0 1 = (let y = t in cc) in omega arith)

reached_ok : (b a : Bool) {d : Bool} → Ok d ≡ reached b a → (b ≡ false) × (d ≡ a)
unfolding reached
reached_ok true a t = absurd (let z : ◌≡◌ {A = ℕ} 0 1 = (let y = t in cc) in omega arith)
reached_ok false a t = (refl, let y = t in cc)

module _ {tol : Float} {l : ℕ} (x : Limits) (act : Activity) where
  pub reach_never : {a b z : Bool} → Says tol l a (λ M r. above_hi M r (bare x) act) → Says tol l b (λ M r. below_lo M r (bare x) act) → z ≡ (a || b)
      → Says tol l z (λ M r. unreachable M r (bare x) act)
  unfolding unreachable
  reach_never {a} {b} p q e =
      record { of = λ M r o. e ∙ ap (λ (y : Bool). y || b) (p.of M r o) ∙ ap (λ (y : Bool). above_hi M r (bare x) act || y) (q.of M r o) }

  pub reach_reduces : {a b d y z : Bool} → Says tol l a (λ M r. near_min M r (bare x) act) → Says tol l b (λ M r. near_max M r (bare x) act) → d ≡ within (bare x) act → y ≡ (a || b) → z ≡ (y || d)
      → Says tol l z (λ M r. may_reduce M r (bare x) act)
  unfolding may_reduce
  reach_reduces {a} {b} {d} p q g e h =
      record {
        of = λ M r o.
            h ∙ ap (λ (u : Bool). u || d) (e ∙ ap (λ (u : Bool). u || b) (p.of M r o) ∙ ap (λ (u : Bool). near_min M r (bare x) act || u) (q.of M r o))
            ∙ ap (λ (u : Bool). near_min M r (bare x) act || near_max M r (bare x) act || u) g;
      }

  -- and of what is answered
  module _ {a b : Bool} (p : Says tol l a (λ M r. above_hi M r (bare x) act)) (q : Says tol l b (λ M r. below_lo M r (bare x) act)) where
    pub reach_err : {e : Infeasible} → (a || b) ≡ true → Says tol l (Err e) (λ M r. reached (unreachable M r (bare x) act) (may_reduce M r (bare x) act))
    unfolding reached
    reach_err t = record { of = λ M r o. rw (sym ((reach_never p q refl).of M r o) ∙ t) }

    pub reach_ok : {c d g : Bool} → (a || b) ≡ false → Says tol l c (λ M r. near_min M r (bare x) act) → Says tol l d (λ M r. near_max M r (bare x) act) → g ≡ within (bare x) act
        → Says tol l (Ok ((c || d) || g)) (λ M r. reached (unreachable M r (bare x) act) (may_reduce M r (bare x) act))
    unfolding reached
    reach_ok t u v h = record { of = λ M r o. rw (sym ((reach_never p q refl).of M r o) ∙ t) (ap Ok ((reach_reduces u v h refl refl).of M r o)) }

-- ---- several_terms
module _ {lists : Lists} {s : Context} {f : Floats} {n : Numbers} (r : ℕ) {act : Activity} {x : Limits} {l : ℕ} {y : Result Bool Infeasible} (al : Alive n r)
    (ea : Reads (Spans lists.rows.starts.now) s f n act (λ M w. activity M w (row_of w r) true)) (lim : ReadsLimits s f r l x) (en : l
    ≡ get_or lists.rows.starts.now (r + 1) 0 - get_or lists.rows.starts.now r 0)
    (eb : Says x.feas x.terms y (λ M q. reached (unreachable M q (bare x) act) (may_reduce M q (bare x) act))) where
  reach_is : {M : Model} {o : List ℕ} {k : ℕ} {w : Work} → BoundingRows lists M → Call M s → Shows M f n o w → Inv M k w
      → y ≡ reached (unreachable M r (row_of w r) (activity M w (row_of w r) true)) (may_reduce M r (row_of w r) (activity M w (row_of w r) true))
  reach_is {M} {o} {k} {w} p c h i =
      let row = row_of w r in
      eb.of M r (of_limits lim c (moves_spans M p) en)
      ∙ ap (λ (b : Bool). reached b (may_reduce M r (bare x) act)) (unreachable_of M r act (lim.has M n o w c h al))
      ∙ ap (reached (unreachable M r row act)) (may_reduce_of M r act (lim.has M n o w c h al))
      ∙ ap (λ (d : Activity). reached (unreachable M r row d) (may_reduce M r row d)) (sym (ea.reads M o k w (moves_spans M p) c h i))

  pub several_stop : {e e₀ : Infeasible} → y ≡ Err e → Tries (BoundingRows lists) s f n f n (Err e₀) (λ M w. several_terms M r (row_of w r) w)
  several_stop t =
      record { does = λ M o k w p c h i. stopped_by {w = w} (several_is M r (row_of w r) w ∙ yes _ _ (reached_err _ _ (sym t ∙ reach_is p c h i))) h }

  module _ {a : Bool} {z : Ending} (t : y ≡ Ok a) (ez : Reads (Looks lists) s f n z
      (λ M w. end_if a (end_of M r (row_of w r) act (activity M w (row_of w r) false) w))) where
    -- with or without the look at the emitted activity
    ends : {M : Model} {o : List ℕ} {k : ℕ} {w : Work} → BoundingRows lists M → Call M s → Shows M f n o w → Inv M k w → several_terms M r (row_of w r) w ≡ ended M r (row_of w r) act w z
    unfolding end_if ended
    ends {M} {o} {k} {w} p c h i = by a refl
      where
        seen : activity M w (row_of w r) true ≡ act
        seen = ea.reads M o k w (moves_spans M p) c h i

        read : end_if a (end_of M r (row_of w r) act (activity M w (row_of w r) false) w) ≡ z
        read = ez.reads M o k w (moves_looks M p) c h i

        told : (unreachable M r (row_of w r) (activity M w (row_of w r) true) ≡ false) × (a ≡ may_reduce M r (row_of w r) (activity M w (row_of w r) true))
        told = reached_ok _ _ (sym t ∙ reach_is p c h i)

        by : (d : Bool) → a ≡ d → several_terms M r (row_of w r) w ≡ ended M r (row_of w r) act w z
        by true q =
            several_is M r (row_of w r) w ∙ no _ _ told.0
            ∙ ap (λ (y : Activity). ended M r (row_of w r) y w (end_of M r (row_of w r) y (activity M w (row_of w r) false) w)) seen
            ∙ ap (ended M r (row_of w r) act w) (ap (λ (d : Bool). end_if d (end_of M r (row_of w r) act (activity M w (row_of w r) false) w)) (sym q) ∙ read)
        by false q =
            several_of M r (row_of w r) w told.0 (sym told.1 ∙ q) ∙ ap (λ (y : Activity). implied_bounds M r (row_of w r) y (row_of w r).terms w) seen
            ∙ ap (ended M r (row_of w r) act w) (ap (λ (d : Bool). end_if d (end_of M r (row_of w r) act (activity M w (row_of w r) false) w)) (sym q) ∙ read)

    pub several_min : {f' : Floats} {n' : Numbers} → z ≡ ForceMin → Acts (Marks lists) s f n f' n'
        (λ M w. drop_row r (row_of w r) (fix_all M true w (row_of w r).terms w)) → Tries (BoundingRows lists) s f n f' n' (Ok tt) (λ M w. several_terms M r (row_of w r) w)
    unfolding ended
    several_min v u = record { does = λ M o k w p c h i. went_by (ends p c h i ∙ ap (ended M r (row_of w r) act w) v) (u.does M o k w (moves_marks M p) c h i) }

    pub several_max : {f' : Floats} {n' : Numbers} → z ≡ ForceMax → Acts (Marks lists) s f n f' n'
        (λ M w. drop_row r (row_of w r) (fix_all M false w (row_of w r).terms w)) → Tries (BoundingRows lists) s f n f' n' (Ok tt) (λ M w. several_terms M r (row_of w r) w)
    unfolding ended
    several_max v u = record { does = λ M o k w p c h i. went_by (ends p c h i ∙ ap (ended M r (row_of w r) act w) v) (u.does M o k w (moves_marks M p) c h i) }

    pub several_drop : {n' : Numbers} → z ≡ Drop → ActsN Any s n n' (λ M w. drop_row r (row_of w r) w) → Tries (BoundingRows lists) s f n f n' (Ok tt) (λ M w. several_terms M r (row_of w r) w)
    unfolding ended
    several_drop v u = record { does = λ M o k w p c h i. went_by (ends p c h i ∙ ap (ended M r (row_of w r) act w) v) (u.does M f o k w tt c h i) }

    pub several_implied : {f' : Floats} {n' : Numbers} {y : Outcome} → z ≡ Open → Tries (BoundingRows lists) s f n f' n' y
        (λ M w. implied_bounds M r (row_of w r) act (row_of w r).terms w) → Tries (BoundingRows lists) s f n f' n' y (λ M w. several_terms M r (row_of w r) w)
    unfolding ended
    several_implied v u = tries_as (λ M o k w p c h i. ends p c h i ∙ ap (ended M r (row_of w r) act w) v) u

-- ---- it keeps the invariant
pub inv_several : {M : Model} {k : ℕ} (r : ℕ) (row : Row) (w : Work) → Inv M k w → InvStep M k (several_terms M r row w)
unfolding several_terms
inv_several {M} {k} r row w i =
    either (InvStep M k) _ (λ e. stops)
    (λ e. either (InvStep M k) _ (λ e'. goes (inv_drop r row _ (inv_fix_all true w row.terms w i)))
    (λ e'. either (InvStep M k) _ (λ e''. goes (inv_drop r row _ (inv_fix_all false w row.terms w i)))
    (λ e''. either (InvStep M k) _ (λ e'''. goes (inv_drop r row w i)) (λ e'''. inv_bounds r row _ row.terms w i))))

pub passes_several : (M : Model) (r : ℕ) (row : Row) (w : Work) → Leaves passes_of w (several_terms M r row w)
unfolding several_terms
passes_several M r row w =
    either (Leaves passes_of w) _ (λ e. halts)
    (λ e. either (Leaves passes_of w) _ (λ e'. same (drop_passes r row _ ∙ fix_all_leaves passes_blind M true w row.terms w))
    (λ e'. either (Leaves passes_of w) _ (λ e''. same (drop_passes r row _ ∙ fix_all_leaves passes_blind M false w row.terms w))
    (λ e''. either (Leaves passes_of w) _ (λ e'''. same (drop_passes r row w)) (λ e'''. leaves_bounds passes_blind M r row _ row.terms w))))
