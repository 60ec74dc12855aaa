-- A row of one term, by the ways through the code; and that it keeps the invariant.
use Rattle.std.specs.Prelude.{ℕ, ◌+◌, ◌-◌, ◌<◌, ◌≡◌, refl, Bool, true, false, ◌&&◌, List, get_or, Float, Ok, Err}
use Rattle.std.proofs.Common.{arith, ap, sym, ◌∙◌}
use Rattle.std.proofs.Math.Path.{subst}
use Rattle.std.specs.Float.{nan}
use Rattle.floats.specs.Num.{choose, gt}
use Rattle.tolerances.specs.Tol.{Term, term, at}
use Rattle.definition.specs.declared.Infeasible.{Infeasible}
use Rattle.definition.specs.Model.{Model, Row, is_int}
use Rattle.definition.specs.Work.{Work, Step, stop, next, ◌>>=◌, no_term, no_row, drop_row}
use Rattle.definition.specs.Bounds.{emit_bounds}
use Rattle.definition.specs.Singles.{new_lower, new_upper, singleton_int, singleton_misses, singleton_bounds, lower_meets, upper_meets, singleton_drop, singleton_row}
use Rattle.space.specs.declared.Context.{Context}
use Rattle.space.specs.Store.{Floats, Numbers}
use Rattle.formulas.specs.declared.Limits.{Limits}
use Rattle.formulas.specs.declared.Ends.{Ends}
use Rattle.formulas.specs.Bare.{bare, Says, ByTol, new_lower_of, new_upper_of}
use Rattle.formulas.specs.Singles.{lower_side, upper_side, lower_side_of, upper_side_of, singleton_of, misses_at, meets_lower, meets_upper, misses_of, lower_meets_of, upper_meets_of}
use Rattle.view.specs.declared.Lists.{Lists}
use Rattle.view.specs.Call.{Call}
use Rattle.view.specs.Shows.{Shows, Outcome, StepShown}
use Rattle.view.specs.Inv.{Inv}
use Rattle.view.specs.Lists.{yes, no, either}
use Rattle.view.specs.Acts.{Ready, Acts, ActsN, Any, Tries, Reads}
use Rattle.view.specs.Steps.{InvStep, stops, goes, went_is, tries_under}
use Rattle.view.specs.Known.{Spans}
use Rattle.view.specs.Adjacency.{Adj}
use Rattle.view.specs.Bounds.{elo_is, ehi_is, went_by, stopped_by}
use Rattle.bounds.specs.Moves.{inv_emit}
use Rattle.readers.specs.Reading.{row_of, Alive, ReadsM, Domains}
use Rattle.readers.specs.Limits.{ReadsLimits}
use Rattle.readers.specs.Vars.{ReadsEnds}
use Rattle.readers.specs.RowAt.{row_at, live_place, live_var}
use Rattle.readers.specs.Knowing.{Marks, BoundingRows, marks_spans, marks_adj, moves_spans, moves_domains, moves_marks, of_limits}
use Rattle.bounds.specs.Same.{Blind, passes_of, rows_blind, passes_blind, Leaves, Same, halts, same, same_next, same_then, emit_leaves}
use Rattle.view.specs.Renamed.{tries_as, stopped_then, inv_next, inv_then}
use Rattle.bounds.specs.Drop.{inv_drop, drop_passes}

-- what is read of an alive row by a function that has the floats alone
pub record ReadsRow {A : Type 0} (P : Model → Type 0) (s : Context) (f : Floats) (r : ℕ) (z : A) (F : Model → Work → A) : Type 0 where
  pub reads : (n : Numbers) → Alive n r → Reads P s f n z F

-- ---- singleton_int
module _ {lists : Lists} {s : Context} {f : Floats} {n : Numbers} (r v : ℕ) (a blo bhi : Float) {x : Limits} {l : ℕ} {el eh lo hi : Float} (al : Alive n r)
    (lim : ReadsLimits s f r l x) (en : l ≡ get_or lists.rows.starts.now (r + 1) 0 - get_or lists.rows.starts.now r 0)
    (e₁ : el ≡ get_or f.elo v nan) (e₂ : eh ≡ get_or f.ehi v nan) (e₃ : Says x.feas x.terms lo (λ M q. new_lower M q (bare x) a blo el))
    (e₄ : Says x.feas x.terms hi (λ M q. new_upper M q (bare x) a bhi eh)) where
  lower_is : {M : Model} {o : List ℕ} {w : Work} → Marks lists M → Call M s → Shows M f n o w → new_lower M r (row_of w r) a blo (at w.elo v) ≡ lo
  lower_is {M} {o} {w} p c h =
      ap (new_lower M r (row_of w r) a blo) (sym (elo_is v h e₁)) ∙ sym (e₃.of M r (of_limits lim c (marks_spans M p) en) ∙ new_lower_of M r a blo el (lim.has M n o w c h al))

  upper_is : {M : Model} {o : List ℕ} {w : Work} → Marks lists M → Call M s → Shows M f n o w → new_upper M r (row_of w r) a bhi (at w.ehi v) ≡ hi
  upper_is {M} {o} {w} p c h =
      ap (new_upper M r (row_of w r) a bhi) (sym (ehi_is v h e₂)) ∙ sym (e₄.of M r (of_limits lim c (marks_spans M p) en) ∙ new_upper_of M r a bhi eh (lim.has M n o w c h al))

  int_is : {M : Model} {o : List ℕ} {w : Work} → Marks lists M → Call M s → Shows M f n o w → singleton_int M r (row_of w r) v a blo bhi w
      ≡ choose (gt lo hi) (stop w.counts) (next (emit_bounds M v lo hi w))
  unfolding singleton_int
  int_is {M} {o} {w} p c h = rw (lower_is p c h, upper_is p c h)

  pub int_stop : {e₀ : Infeasible} → gt lo hi ≡ true → Tries (Marks lists) s f n f n (Err e₀) (λ M w. singleton_int M r (row_of w r) v a blo bhi w)
  int_stop e = record { does = λ M o k w p c h i. stopped_by {w = w} (int_is p c h ∙ yes _ _ e) h }

  pub int_emit : {f' : Floats} {n' : Numbers} → gt lo hi ≡ false → Acts (Adj lists.adjacency.now) s f n f' n' (λ M. emit_bounds M v lo hi) → Tries (Marks lists) s f n f' n' (Ok tt)
      (λ M w. singleton_int M r (row_of w r) v a blo bhi w)
  int_emit e t = record { does = λ M o k w p c h i. went_by (int_is p c h ∙ no _ _ e) (t.does M o k w (marks_adj M p) c h i) }

-- ---- singleton_misses
pub misses_is : {ss : List ℕ} {s : Context} {f : Floats} (r v : ℕ) (a blo bhi : Float) {x : Limits} {l : ℕ} {e : Ends} {z : Bool} → ReadsLimits s f r l x → l ≡ get_or ss (r + 1) 0 - get_or ss r 0
    → ReadsEnds s f v e → Says x.feas x.terms z (λ M q. misses_at M q (bare x) a blo bhi e.lo e.hi e.tol_lo e.tol_hi)
    → ReadsRow (Spans ss) s f r z (λ M w. singleton_misses M r (row_of w r) v a blo bhi w)
misses_is r v a blo bhi lim en e ez =
    record {
      reads = λ n al.
          record {
            reads = λ M o k w p c h i.
                sym (misses_of M v a w r blo bhi (lim.has M n o w c h al))
                ∙ cc (elo_is v h e.lo, ehi_is v h e.hi, e.tol_lo.reads M n o k w tt c h i, e.tol_hi.reads M n o k w tt c h i, ez.of M r (of_limits lim c p en));
          };
    }

-- ---- singleton_bounds
module _ {lists : Lists} {s : Context} {f : Floats} {n : Numbers} (r v : ℕ) (a blo bhi : Float) {b : Bool} (eb : ReadsM (Domains lists.domain.now) s b (λ M. is_int M v)) where
  pub bounds_int : {f' : Floats} {n' : Numbers} {z : Outcome} → b ≡ true → Tries (Marks lists) s f n f' n' z
      (λ M w. singleton_int M r (row_of w r) v a blo bhi w) → Tries (BoundingRows lists) s f n f' n' z (λ M w. singleton_bounds M r (row_of w r) v a blo bhi w)
  unfolding singleton_bounds
  bounds_int e t = tries_as (λ M o k w p c h i. yes _ _ (eb.reads M (moves_domains M p) c ∙ e)) (tries_under moves_marks t)

  module _ {d : Bool} (al : Alive n r) (ed : ReadsRow (Spans lists.rows.starts.now) s f r d (λ M w. singleton_misses M r (row_of w r) v a blo bhi w)) where
    pub bounds_stop : {e₀ : Infeasible} → b ≡ false → d ≡ true → Tries (BoundingRows lists) s f n f n (Err e₀) (λ M w. singleton_bounds M r (row_of w r) v a blo bhi w)
    unfolding singleton_bounds
    bounds_stop e u =
        record {
          does = λ M o k w p c h i. stopped_by {w = w} (no _ _ (eb.reads M (moves_domains M p) c ∙ e) ∙ yes _ _ ((ed.reads n al).reads M o k w (moves_spans M p) c h i ∙ u)) h;
        }

    pub bounds_leave : b ≡ false → d ≡ false → Tries (BoundingRows lists) s f n f n (Ok tt) (λ M w. singleton_bounds M r (row_of w r) v a blo bhi w)
    unfolding singleton_bounds
    bounds_leave e u =
        record {
          does = λ M o k w p c h i. went_by (no _ _ (eb.reads M (moves_domains M p) c ∙ e) ∙ no _ _ ((ed.reads n al).reads M o k w (moves_spans M p) c h i ∙ u)) h;
        }

-- ---- row_implied
module _ {s : Context} {f : Floats} (r v : ℕ) (a blo bhi : Float) {x : Limits} {l : ℕ} {e : Ends} (lim : ReadsLimits s f r l x) (en : ReadsEnds s f v e) where
  module _ {M : Model} {n : Numbers} {o : List ℕ} {k : ℕ} {w : Work} (al : Alive n r) (c : Call M s) (h : Shows M f n o w) (i : Inv M k w) where
    low_is : {b : Bool} → ByTol x.feas b (λ M. meets_lower M (bare x) a blo e.lo e.tol_lo) → lower_meets M (row_of w r) v a blo w ≡ b
    low_is eb = sym (lower_meets_of M v a w blo (lim.has M n o w c h al)) ∙ cc (elo_is v h en.lo, en.tol_lo.reads M n o k w tt c h i, eb.of M (sym c.feas ∙ sym lim.feas))

    high_is : {b : Bool} → ByTol x.feas b (λ M. meets_upper M (bare x) a bhi e.hi e.tol_hi) → upper_meets M (row_of w r) v a bhi w ≡ b
    high_is eb = sym (upper_meets_of M v a w bhi (lim.has M n o w c h al)) ∙ cc (ehi_is v h en.hi, en.tol_hi.reads M n o k w tt c h i, eb.of M (sym c.feas ∙ sym lim.feas))

  pub implied_not : {b : Bool} → ByTol x.feas b (λ M. meets_lower M (bare x) a blo e.lo e.tol_lo) → b ≡ false
      → ReadsRow Any s f r b (λ M w. lower_meets M (row_of w r) v a blo w && upper_meets M (row_of w r) v a bhi w)
  implied_not eb g = record { reads = λ n al. record { reads = λ M o k w p c h i. rw (low_is al c h i eb ∙ g) (sym g) } }

  pub implied_by : {b z : Bool} → ByTol x.feas b (λ M. meets_lower M (bare x) a blo e.lo e.tol_lo) → b ≡ true → ByTol x.feas z (λ M. meets_upper M (bare x) a bhi e.hi e.tol_hi)
      → ReadsRow Any s f r z (λ M w. lower_meets M (row_of w r) v a blo w && upper_meets M (row_of w r) v a bhi w)
  implied_by eb g ez = record { reads = λ n al. record { reads = λ M o k w p c h i. rw (low_is al c h i eb ∙ g) (high_is al c h i ez) } }

-- ---- singleton_drop
module _ {s : Context} {f : Floats} {n : Numbers} (r v : ℕ) (a blo bhi : Float) {b : Bool} (al : Alive n r) (eb : ReadsRow Any s f r b
    (λ M w. lower_meets M (row_of w r) v a blo w && upper_meets M (row_of w r) v a bhi w)) where
  pub single_drop : {n' : Numbers} → b ≡ true → ActsN Any s n n' (λ M w. drop_row r (row_of w r) w) → Acts Any s f n f n' (λ M w. singleton_drop M r (row_of w r) v a blo bhi w)
  unfolding singleton_drop
  single_drop {n'} e t =
      record { does = λ M o k w p c h i. subst (λ (u : Work). Shows M f n' o u) (sym (yes _ _ ((eb.reads n al).reads M o k w tt c h i ∙ e))) (t.does M f o k w tt c h i) }

  pub single_stay : b ≡ false → Acts Any s f n f n (λ M w. singleton_drop M r (row_of w r) v a blo bhi w)
  unfolding singleton_drop
  single_stay e = record { does = λ M o k w p c h i. subst (λ (u : Work). Shows M f n o u) (sym (no _ _ ((eb.reads n al).reads M o k w tt c h i ∙ e))) h }

-- ---- it keeps the invariant, and the bounds change no row
leaves_bounds : {A : Type 0} {g : Work → A} → Blind g → (M : Model) (r v : ℕ) (row : Row) (a blo bhi : Float) (w : Work) → Leaves g w (singleton_bounds M r row v a blo bhi w)
unfolding singleton_bounds singleton_int
leaves_bounds {g = g} b M r v row a blo bhi w =
    either (Leaves g w) _ (λ e. either (Leaves g w) _ (λ e'. halts) (λ e'. same (emit_leaves b M v _ _ w))) (λ e. either (Leaves g w) _ (λ e'. halts) (λ e'. same refl))

module _ (M : Model) (r v : ℕ) (row : Row) (a blo bhi : Float) (w : Work) where
  passes_single_drop : (singleton_drop M r row v a blo bhi w).counts.passes ≡ w.counts.passes
  unfolding singleton_drop
  passes_single_drop = either (λ (u : Work). u.counts.passes ≡ w.counts.passes) _ (λ e. drop_passes r row w) (λ e. refl)

  module _ {k : ℕ} (i : Inv M k w) where
    inv_bounds : InvStep M k (singleton_bounds M r row v a blo bhi w)
    unfolding singleton_bounds singleton_int
    inv_bounds = either (InvStep M k) _ (λ e. either (InvStep M k) _ (λ e'. stops) (λ e'. goes (inv_emit v w i _ _))) (λ e. either (InvStep M k) _ (λ e'. stops) (λ e'. goes i))

    inv_single_drop : Inv M k (singleton_drop M r row v a blo bhi w)
    unfolding singleton_drop
    inv_single_drop = either (Inv M k) _ (λ e. inv_drop r row w i) (λ e. i)

pub bounds_same : (r v : ℕ) (a blo bhi : Float) (M : Model) (w : Work) → Same w (singleton_bounds M r (row_of w r) v a blo bhi w)
bounds_same r v a blo bhi M w = leaves_bounds rows_blind M r v (row_of w r) a blo bhi w

pub inv_single : {M : Model} {k : ℕ} (r : ℕ) (row : Row) (t : Term) (w : Work) → Inv M k w → InvStep M k (singleton_row M r row t w)
inv_single {M} {k} r row t w i =
    rw (singleton_of M r row t w)
    (inv_then (λ w1. next (singleton_drop M r row t.var t.coeff (lower_side row t.coeff) (upper_side row t.coeff) w1))
    (inv_bounds M r t.var row t.coeff (lower_side row t.coeff) (upper_side row t.coeff) w i)
    (λ u j. goes (inv_single_drop M r t.var row t.coeff (lower_side row t.coeff) (upper_side row t.coeff) u j)))

pub passes_single : (M : Model) (r : ℕ) (row : Row) (t : Term) (w : Work) → Leaves passes_of w (singleton_row M r row t w)
passes_single M r row t w =
    rw (singleton_of M r row t w)
    (same_then (λ w1. next (singleton_drop M r row t.var t.coeff (lower_side row t.coeff) (upper_side row t.coeff) w1))
    (leaves_bounds passes_blind M r t.var row t.coeff (lower_side row t.coeff) (upper_side row t.coeff) w)
    (λ u. same (passes_single_drop M r t.var row t.coeff (lower_side row t.coeff) (upper_side row t.coeff) u)))

-- ---- singleton_row
module _ {P : Model → Type 0} {s : Context} {f : Floats} {n : Numbers} {ss : List ℕ} {r : ℕ} (R : Ready P s f n) (q : (M : Model) → P M → Spans ss M)
    (p : r < s.rows) (al : Alive n r) (one : get_or n.len r 0 ≡ 1) where
  pub single_place : get_or ss r 0 < s.terms
  single_place = omega (arith, live_place R q p al {j = 0} (omega (arith, one)))

  pub single_var : {v : ℕ} → v ≡ get_or n.vars (get_or ss r 0) 0 → v < s.vars
  single_var {v} e =
      let z : get_or ss r 0 ≡ get_or ss r 0 + 0 = omega arith in
      live_var R q p al {j = 0} {x = v} (omega (arith, one)) (e ∙ ap (λ (j : ℕ). get_or n.vars j 0) z)

module _ {lists : Lists} {s : Context} {f : Floats} {n : Numbers} (r : ℕ) {v : ℕ} {a blo bhi : Float} {x : Limits} (p : r < s.rows) (al : Alive n r)
    (one : get_or n.len r 0 ≡ 1) (ev : v ≡ get_or n.vars (get_or lists.rows.starts.now r 0) 0) (ea : a ≡ get_or f.coeffs (get_or lists.rows.starts.now r 0) nan)
    {l : ℕ} (lim : ReadsLimits s f r l x) (e₁ : blo ≡ lower_side (bare x) a) (e₂ : bhi ≡ upper_side (bare x) a) where
  single_is : {M : Model} {o : List ℕ} {k : ℕ} {w : Work} → BoundingRows lists M → Call M s → Shows M f n o w → Inv M k w
      → singleton_row M r (row_of w r) (get_or (row_of w r).terms 0 no_term) w ≡ (singleton_bounds M r (row_of w r) v a blo bhi w >>= λ w1. next (singleton_drop M r (row_of w r) v a blo bhi w1))
  single_is {M} {o} {k} {w} q c h i =
      let row = row_of w r in
      let d = row_at c h p al i (moves_spans M q) in
      let t = d.terms 0 (omega (arith, d.len, one)) in
      let z : get_or lists.rows.starts.now r 0 + 0 ≡ get_or lists.rows.starts.now r 0 = omega arith in
      let bv : (get_or row.terms 0 no_term).var ≡ v = sym t.var ∙ ap (λ (j : ℕ). get_or n.vars j 0) z ∙ sym ev in
      let ba : (get_or row.terms 0 no_term).coeff ≡ a = sym t.coeff ∙ ap (λ (j : ℕ). at f.coeffs j) z ∙ sym ea in
      let bt : get_or row.terms 0 no_term ≡ term v a = λ m. term (bv m) (ba m) in
      let b₁ : lower_side row a ≡ blo = sym (e₁ ∙ lower_side_of a (lim.has M n o w c h al)) in
      let b₂ : upper_side row a ≡ bhi = sym (e₂ ∙ upper_side_of a (lim.has M n o w c h al)) in
      ap (λ (y : Term). singleton_row M r row y w) bt ∙ singleton_of M r row (term v a) w
      ∙ ap (λ (y : Float). singleton_bounds M r row v a y (upper_side row a) w >>= λ w1. next (singleton_drop M r row v a y (upper_side row a) w1)) b₁
      ∙ ap (λ (y : Float). singleton_bounds M r row v a blo y w >>= λ w1. next (singleton_drop M r row v a blo y w1)) b₂

  pub single_stop : {f₁ : Floats} {n₁ : Numbers} {e₀ : Infeasible} → Tries (BoundingRows lists) s f n f₁ n₁ (Err e₀) (λ M w. singleton_bounds M r (row_of w r) v a blo bhi w)
      → Tries (BoundingRows lists) s f n f₁ n₁ (Err e₀) (λ M w. singleton_row M r (row_of w r) (get_or (row_of w r).terms 0 no_term) w)
  single_stop {f₁} {n₁} {e₀} t =
      record {
        does = λ M o k w q c h i.
            subst (λ (z : Step). StepShown M f₁ n₁ o (Err e₀) z) (sym (single_is q c h i)) (stopped_then (λ w1. next (singleton_drop M r (row_of w r) v a blo bhi w1)) (t.does M o k w q c h i));
      }

  pub single_goes : {f₁ : Floats} {n₁ n₂ : Numbers} → Tries (BoundingRows lists) s f n f₁ n₁ (Ok tt) (λ M w. singleton_bounds M r (row_of w r) v a blo bhi w)
      → Acts Any s f₁ n₁ f₁ n₂ (λ M w. singleton_drop M r (row_of w r) v a blo bhi w)
      → Tries (BoundingRows lists) s f n f₁ n₂ (Ok tt) (λ M w. singleton_row M r (row_of w r) (get_or (row_of w r).terms 0 no_term) w)
  single_goes {f₁} {n₁} {n₂} t u =
      record {
        does = λ M o k w q c h i.
            let g = went_is (t.does M o k w q c h i) in
            let e : row_of g.work r ≡ row_of w r = ap (λ (l : List Row). get_or l r no_row) (same_next (bounds_same r v a blo bhi M w) g.is) in
            let j = inv_next (inv_bounds M r v (row_of w r) a blo bhi w i) g.is in
            went_by (single_is q c h i ∙ ap (λ (z : Step). z >>= λ w1. next (singleton_drop M r (row_of w r) v a blo bhi w1)) g.is)
            (subst (λ (y : Row). Shows M f₁ n₂ o (singleton_drop M r y v a blo bhi g.work)) e (u.does M o k g.work tt c g.shows j));
      }
