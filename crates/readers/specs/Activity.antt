-- A row's activity, read term by term: what is left of the definition from the term looked at on gives the whole.
use Prim.Native.Nat.{ℕ, suc, ◌+◌, ◌^◌, ◌≤◌, ◌<◌}
use Rattle.std.proofs.Common.{arith, add-one, ap, sym, ◌∙◌, drop_of_length-le, drop-cons}
use Rattle.std.specs.Prelude.{◌≡◌, refl, Bool, true, false, List, [], ◌∷◌, length, get_or, drop, Float}
use Rattle.std.specs.Float.{nan}
use Rattle.floats.specs.Num.{choose, is_finite}
use Rattle.tolerances.specs.Tol.{Term, term, at}
use Rattle.definition.specs.declared.Activity.{Activity}
use Rattle.definition.specs.Model.{Model, range_min, range_max}
use Rattle.definition.specs.Work.{Work, no_term, bound_tol}
use Rattle.definition.specs.Activities.{no_activity, activity_step, activity_from, activity}
use Rattle.space.specs.declared.Context.{Context}
use Rattle.space.specs.Store.{Floats, Numbers}
use Rattle.formulas.specs.Terms.{step_of, step_of_lem}
use Rattle.view.specs.Call.{Call}
use Rattle.view.specs.Shows.{Shows}
use Rattle.view.specs.Inv.{Inv}
use Rattle.view.specs.Lists.{either}
use Rattle.view.specs.Acts.{Ready, Reads, Any}
use Rattle.view.specs.Known.{Spans}
use Rattle.view.specs.Bounds.{wlo_is, whi_is, elo_is, ehi_is}
use Rattle.readers.specs.Reading.{row_of, Alive, ReadsF}
use Rattle.readers.specs.RowAt.{TermAt, RowAt, row_at, row_ready}

-- the bounds of the box that the activity is over
abbrev pub los_of : Bool → Work → List Float
los_of working w = choose working w.wlo w.elo

abbrev pub his_of : Bool → Work → List Float
his_of working w = choose working w.whi w.ehi

-- ---- one term
module _ {s : Context} {f : Floats} (v : ℕ) (a lo hi : Float) (act : Activity) {z : Activity} where
  pub within_step : {tolLo tolHi : Float} → act.ninf_l + 1 < 2 ^ 64 → act.ninf_u + 1 < 2 ^ 64 → ReadsF Any s f tolLo (λ M w. bound_tol M w v false) → ReadsF Any s f tolHi (λ M w. bound_tol M w v true)
      → z ≡ step_of a lo hi tolLo tolHi act → ReadsF Any s f z (λ M w. activity_step M w lo hi (term v a) act)
  within_step {tolHi = tolHi} p q tl tu ez =
      record {
        reads = λ M n o k w x c h i.
            sym (ez ∙ ap (λ (y : Float). step_of a lo hi y tolHi act) (sym (tl.reads M n o k w x c h i)) ∙ ap
            (λ (y : Float). step_of a lo hi (bound_tol M w v false) y act) (sym (tu.reads M n o k w x c h i))
            ∙ step_of_lem M w lo hi (term v a) act p q);
      }

  pub in_box : (working : Bool) → ReadsF Any s f lo (λ M w. at (los_of working w) v) → ReadsF Any s f hi (λ M w. at (his_of working w) v)
      → ReadsF Any s f z (λ M w. activity_step M w lo hi (term v a) act)
      → ReadsF Any s f z (λ M w. activity_step M w (at (los_of working w) v) (at (his_of working w) v) (term v a) act)
  in_box working el eh t = record { reads = λ M n o k w x c h i. rw (el.reads M n o k w tt c h i, eh.reads M n o k w tt c h i) (t.reads M n o k w x c h i) }

-- ---- a bound of either box
module _ {s : Context} {f : Floats} (v : ℕ) {x : Float} where
  pub working_lo : x ≡ get_or f.wlo v nan → ReadsF Any s f x (λ M w. at (los_of true w) v)
  unfolding choose
  working_lo e = record { reads = λ M n o k w p c h i. sym (wlo_is v h e) }

  pub working_hi : x ≡ get_or f.whi v nan → ReadsF Any s f x (λ M w. at (his_of true w) v)
  unfolding choose
  working_hi e = record { reads = λ M n o k w p c h i. sym (whi_is v h e) }

  pub emitted_lo : x ≡ get_or f.elo v nan → ReadsF Any s f x (λ M w. at (los_of false w) v)
  unfolding choose
  emitted_lo e = record { reads = λ M n o k w p c h i. sym (elo_is v h e) }

  pub emitted_hi : x ≡ get_or f.ehi v nan → ReadsF Any s f x (λ M w. at (his_of false w) v)
  unfolding choose
  emitted_hi e = record { reads = λ M n o k w p c h i. sym (ehi_is v h e) }

-- a term adds one to each count of infinite terms, at most
module _ (M : Model) (w : Work) (lo hi : Float) (t : Term) (act : Activity) where
  step_l : (activity_step M w lo hi t act).ninf_l ≤ suc act.ninf_l
  unfolding activity_step
  step_l = either (λ (x : ℕ). x ≤ suc act.ninf_l) (is_finite (range_min t.coeff lo hi)) (λ e. omega arith) (λ e. omega arith)

  step_u : (activity_step M w lo hi t act).ninf_u ≤ suc act.ninf_u
  unfolding activity_step
  step_u = either (λ (x : ℕ). x ≤ suc act.ninf_u) (is_finite (range_max t.coeff lo hi)) (λ e. omega arith) (λ e. omega arith)

from_cons : (M : Model) (w : Work) (los his : List Float) (act : Activity) (t : Term) (ts : List Term) → activity_from M w los his act (t ∷ ts)
    ≡ activity_from M w los his (activity_step M w (at los t.var) (at his t.var) t act) ts
unfolding activity_from
from_cons M w los his act t ts = refl

from_end : (M : Model) (w : Work) (los his : List Float) (act : Activity) → activity_from M w los his act [] ≡ act
unfolding activity_from
from_end M w los his act = refl

from_start : (M : Model) (w : Work) (r : ℕ) (working : Bool) → activity_from M w (los_of working w) (his_of working w) no_activity (row_of w r).terms ≡ activity M w (row_of w r) working
unfolding activity
from_start M w r working = refl

-- ---- the walk: the terms from i on are left
pub record Walking (ss : List ℕ) (s : Context) (f : Floats) (n : Numbers) (r : ℕ) (working : Bool) (i : ℕ) (act : Activity) : Type 0 where
  pub ready : Ready (Spans ss) s f n
  pub upto : i ≤ get_or n.len r 0
  pub inf_l : act.ninf_l ≤ i
  pub inf_u : act.ninf_u ≤ i
  pub rest : (M : Model) (o : List ℕ) (k : ℕ) (w : Work) → Spans ss M → Call M s → Shows M f n o w → Inv M k w
      → activity_from M w (los_of working w) (his_of working w) act (drop i (row_of w r).terms) ≡ activity M w (row_of w r) working

module _ {ss : List ℕ} {s : Context} {f : Floats} {n : Numbers} {r : ℕ} {working : Bool} where
  pub walk_start : {act : Activity} → Ready (Spans ss) s f n → act ≡ no_activity → Walking ss s f n r working 0 act
  walk_start {act} R e =
      record {
        ready = R;
        upto = omega arith;
        inf_l = omega (arith, ap (λ (x : Activity). x.ninf_l) e);
        inf_u = omega (arith, ap (λ (x : Activity). x.ninf_u) e);
        rest = λ M o k w x c h i. ap (λ (y : Activity). activity_from M w (los_of working w) (his_of working w) y (row_of w r).terms) e ∙ from_start M w r working;
      }

  module _ {i : ℕ} {act : Activity} (p : r < s.rows) (a : Alive n r) (W : Walking ss s f n r working i act) where
    pub walk_row : RowAt ss s f n r (row_of W.ready.work r)
    walk_row = row_ready W.ready (λ M q. q) p a

    -- l is the number of live terms as it was read
    module _ {l : ℕ} (el : l ≡ get_or n.len r 0) (il : i < l) where
      walk_term : TermAt s f n (get_or ss r 0 + i) (get_or (row_of W.ready.work r).terms i no_term)
      walk_term = walk_row.terms i (omega (arith, il, el, walk_row.len))

      pub walk_place : get_or ss r 0 + i < s.terms
      walk_place = walk_term.place

      pub walk_small : get_or ss r 0 + i < 65536
      walk_small = omega (arith, walk_place, walk_row.small)

      pub walk_var : {v : ℕ} → v ≡ get_or n.vars (get_or ss r 0 + i) 0 → v < s.vars
      walk_var e = omega (arith, e, walk_term.var, walk_term.below)

      pub walk_counts : (act.ninf_l + 1 < 2 ^ 64) × (act.ninf_u + 1 < 2 ^ 64)
      walk_counts = (omega (arith, W.inf_l, walk_small), omega (arith, W.inf_u, walk_small))

    pub walk_turn : {l v : ℕ} {x : Float} {act' : Activity} → l ≡ get_or n.len r 0 → i < l → v ≡ get_or n.vars (get_or ss r 0 + i) 0 → x ≡ get_or f.coeffs (get_or ss r 0 + i) nan
        → ReadsF Any s f act' (λ M w. activity_step M w (at (los_of working w) v) (at (his_of working w) v) (term v x) act) → Walking ss s f n r working (i + 1) act'
    walk_turn {v = v} {x} {act'} el l ev ex t =
        let R = W.ready in
        let e = t.reads R.model n R.other R.left R.work tt R.call R.shows R.inv in
        record {
          ready = R;
          upto = omega (arith, l, el);
          inf_l = omega (arith, ap (λ (y : Activity). y.ninf_l) e, step_l R.model R.work (at (los_of working R.work) v) (at (his_of working R.work) v) (term v x) act, W.inf_l);
          inf_u = omega (arith, ap (λ (y : Activity). y.ninf_u) e, step_u R.model R.work (at (los_of working R.work) v) (at (his_of working R.work) v) (term v x) act, W.inf_u);
          rest = λ M o k w q c h j.
              let ts = (row_of w r).terms in
              let los = los_of working w in
              let his = his_of working w in
              let y = row_at c h p a j q in
              let u : i < length ts = omega (arith, l, el, y.len) in
              let b = y.terms i u in
              let bv : (get_or ts i no_term).var ≡ v = sym b.var ∙ sym ev in
              let bc : (get_or ts i no_term).coeff ≡ x = sym b.coeff ∙ sym ex in
              let bt : get_or ts i no_term ≡ term v x = λ m. term (bv m) (bc m) in
              let step : activity_from M w los his act (drop i ts) ≡ activity_from M w los his act' (drop (i + 1) ts) =
              ap (activity_from M w los his act) (drop-cons ts i no_term u ∙ ap (λ (d : Term). d ∷ drop (suc i) ts) bt) ∙ from_cons M w los his act (term v x) (drop (suc i) ts)
              ∙ ap (λ (d : Activity). activity_from M w los his d (drop (suc i) ts)) (t.reads M n o k w tt c h j) ∙ ap (λ (d : ℕ). activity_from M w los his act' (drop d ts)) (sym (add-one i)) in
              sym step ∙ W.rest M o k w q c h j;
        }

    pub walk_end : {l : ℕ} → l ≡ get_or n.len r 0 → l ≤ i → Reads (Spans ss) s f n act (λ M w. activity M w (row_of w r) working)
    walk_end el l =
        record {
          reads = λ M o k w q c h j.
              let ts = (row_of w r).terms in
              let y = row_at c h p a j q in
              let e : drop i ts ≡ [] = drop_of_length-le ts {i = i} (omega (arith, l, el, y.len)) in
              sym (W.rest M o k w q c h j) ∙ ap (activity_from M w (los_of working w) (his_of working w) act) e ∙ from_end M w (los_of working w) (his_of working w) act;
        }
