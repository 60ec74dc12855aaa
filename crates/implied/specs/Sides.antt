-- The implied bounds of one term, by the ways through the code; and that they keep the invariant and change no row.
use Rattle.std.specs.Prelude.{ℕ, ◌+◌, ◌-◌, ◌≡◌, Bool, true, false, List, get_or, Float, Ok, Err}
use Rattle.std.specs.Prelude as std
use Rattle.std.proofs.Common.{sym, ◌∙◌, subst}
use Rattle.std.proofs.Math.Path.{refl, ap}
use Rattle.std.proofs.Math.Option.{Option, none, some}
use Rattle.std.specs.Float.{nan}
use Rattle.floats.specs.Num.{choose, is_finite}
use Rattle.floats.specs.Points.{Held}
use Rattle.tolerances.specs.Tol.{Term, term, at}
use Rattle.definition.specs.declared.Activity.{Activity}
use Rattle.definition.specs.declared.Infeasible.{Infeasible}
use Rattle.definition.specs.Model.{Model, Row, range_min, range_max}
use Rattle.definition.specs.Work.{Work, Step, stop, next, ◌>>=◌}
use Rattle.definition.specs.Bounds.{tighten_upper, tighten_lower}
use Rattle.definition.specs.Implied.{rest_of, implied, implied_term}
use Rattle.space.specs.declared.Context.{Context}
use Rattle.space.specs.Store.{Floats, Numbers}
use Rattle.formulas.specs.declared.Limits.{Limits}
use Rattle.formulas.specs.declared.Side.{Side}
use Rattle.formulas.specs.Bare.{bare, Has, Of, Says}
use Rattle.formulas.specs.Implied.{rest_is, hi_of, lo_of, hi_of_of, lo_of_of, bounds_above, quotient_of, relax_of, relaxation_of, implied_of}
use Rattle.formulas.specs.Stays.{Relaxes, relax_held}
use Rattle.view.specs.declared.Lists.{Lists}
use Rattle.view.specs.Call.{Call}
use Rattle.view.specs.Shows.{Shows, Outcome}
use Rattle.view.specs.Inv.{Inv}
use Rattle.view.specs.Lists.{either}
use Rattle.view.specs.Acts.{Tries}
use Rattle.view.specs.Steps.{InvStep, goes, KeepsStep, tries_under, tries_then, tries_stop}
use Rattle.view.specs.Known.{Bounding, Spans}
use Rattle.view.specs.Bounds.{wlo_is, whi_is, went_by}
use Rattle.bounds.specs.Moves.{tightens, inv_upper, inv_lower}
use Rattle.bounds.specs.Stays.{Stays}
use Rattle.readers.specs.Knowing.{BoundingRows, moves_bounding, moves_spans, of_call}
use Rattle.bounds.specs.Same.{Blind, Leaves, same, same_then, upper_leaves, lower_leaves}
use Rattle.view.specs.Renamed.{tries_as, inv_then}

-- `implied`, at a side
unfoldable pub from_rest : Model → Bool → ℕ → Row → Side → Float → Term → Option Float → Work → Step
from_rest M upper r row side c t rest w = implied M upper r row side.bound side.abs side.slack c t rest w

-- a half of `implied_term`
unfoldable pub side_step : Model → Bool → ℕ → Row → Side → Float → Term → Work → Step
side_step M upper r row side c t w = choose (is_finite side.bound) (from_rest M upper r row side c t (rest_of side.sum side.ninf c) w) (next w)

-- the rest of the row, where the side is finite
unfoldable pub rest_at : Side → Float → Option Float
rest_at side c = choose (is_finite side.bound) (rest_of side.sum side.ninf c) none

rest_none : (M : Model) (upper : Bool) (r : ℕ) (row : Row) (side : Side) (c : Float) (t : Term) (w : Work) → from_rest M upper r row side c t none w ≡ next w
unfolding from_rest implied
rest_none M upper r row side c t w = refl

rest_some : (M : Model) (upper : Bool) (r : ℕ) (row : Row) (side : Side) (c : Float) (t : Term) (rest : Float) (w : Work) → from_rest M upper r row side c t (some rest) w
    ≡ choose (bounds_above upper t.coeff)
    (tighten_upper M t.var (quotient_of side.bound rest t.coeff) (relax_of M r row side c rest t.coeff) w)
    (tighten_lower M t.var (quotient_of side.bound rest t.coeff) (relax_of M r row side c rest t.coeff) w)
unfolding from_rest
rest_some M upper r row side c t rest w = implied_of M upper r row side c t rest w

-- ---- a bound that leaves its variable as it is
pub record SideStill (domain : List ℕ) (s : Context) (f : Floats) (side : Side) (v : ℕ) (q : Float) (above : Bool) : Type 0 where
  pub relaxes : Relaxes s.feas side.abs side.slack
  pub stays : Stays domain s f v q above

-- ---- the row's four floats are enough
module _ {x : Limits} {row : Row} (M : Model) (r : ℕ) (h : Has x row) where
  rest_has : (upper : Bool) (side : Side) (c : Float) (t : Term) (rest : Option Float) (w : Work) → from_rest M upper r (bare x) side c t rest w ≡ from_rest M upper r row side c t rest w
  rest_has upper side c t none w = rest_none M upper r (bare x) side c t w ∙ sym (rest_none M upper r row side c t w)
  rest_has upper side c t (some rest) w =
      let q = quotient_of side.bound rest t.coeff in
      rest_some M upper r (bare x) side c t rest w
      ∙ ap (λ (y : Float). choose (bounds_above upper t.coeff) (tighten_upper M t.var q y w) (tighten_lower M t.var q y w)) (relaxation_of M r side c rest t.coeff h)
      ∙ sym (rest_some M upper r row side c t rest w)

  side_has : (upper : Bool) (side : Side) (c : Float) (t : Term) (w : Work) → side_step M upper r (bare x) side c t w ≡ side_step M upper r row side c t w
  unfolding side_step
  side_has upper side c t w = ap (λ (y : Step). choose (is_finite side.bound) y (next w)) (rest_has upper side c t (rest_of side.sum side.ninf c) w)

-- both halves
both : Model → ℕ → Row → Side → Side → Float → Float → Term → Work → Step
both M r row above below cmin cmax t w = side_step M true r row above cmin t w >>= λ w1. side_step M false r row below cmax t w1

term_of : (M : Model) (r : ℕ) (row : Row) (act : Activity) (t : Term) (w : Work) → implied_term M r row act t w
    ≡ both M r row (hi_of row act) (lo_of row act) (range_min t.coeff (at w.wlo t.var) (at w.whi t.var)) (range_max t.coeff (at w.wlo t.var) (at w.whi t.var)) t w
unfolding implied_term both side_step from_rest
term_of M r row act t w = refl

then_has : {x : Limits} {row : Row} (M : Model) (r : ℕ) → Has x row → (side : Side) (c : Float) (t : Term) (z : Step)
    → (z >>= λ w1. side_step M false r (bare x) side c t w1) ≡ (z >>= λ w1. side_step M false r row side c t w1)
then_has M r h side c t (stop k) = refl
then_has M r h side c t (next w) = side_has M r h false side c t w

both_has : {x : Limits} {row : Row} (M : Model) (r : ℕ) → Has x row → (above below : Side) (cmin cmax : Float) (t : Term) (w : Work)
    → both M r (bare x) above below cmin cmax t w ≡ both M r row above below cmin cmax t w
unfolding both
both_has {x} {row} M r h above below cmin cmax t w =
    then_has M r h below cmax t (side_step M true r (bare x) above cmin t w) ∙ ap (λ (y : Step). y >>= λ w1. side_step M false r row below cmax t w1) (side_has M r h true above cmin t w)

pub term_has : {x : Limits} {row : Row} (M : Model) (r : ℕ) → Has x row → (act : Activity) (t : Term) (w : Work) → implied_term M r (bare x) act t w ≡ implied_term M r row act t w
term_has {x} {row} M r h act t w =
    let lo = at w.wlo t.var in
    let hi = at w.whi t.var in
    let cmin = range_min t.coeff lo hi in
    let cmax = range_max t.coeff lo hi in
    term_of M r (bare x) act t w
    ∙ both_has M r h (hi_of (bare x) act) (lo_of (bare x) act) cmin cmax t w
    ∙ ap (λ (y : Side). both M r row y (lo_of (bare x) act) cmin cmax t w) (hi_of_of act h)
    ∙ ap (λ (y : Side). both M r row (hi_of row act) y cmin cmax t w) (lo_of_of act h)
    ∙ sym (term_of M r row act t w)

-- ---- the invariant is kept, and no row changes
module _ {M : Model} {k : ℕ} (upper : Bool) (r : ℕ) (row : Row) (side : Side) (c : Float) (t : Term) (w : Work) where
  inv_rest : (rest : Option Float) → Inv M k w → InvStep M k (from_rest M upper r row side c t rest w)
  unfolding from_rest implied
  inv_rest none i = goes i
  inv_rest (some rest) i = either (InvStep M k) _ (λ e. inv_upper t.var w i _ _) (λ e. inv_lower t.var w i _ _)

  inv_side : Inv M k w → InvStep M k (side_step M upper r row side c t w)
  unfolding side_step
  inv_side i = either (InvStep M k) _ (λ e. inv_rest (rest_of side.sum side.ninf c) i) (λ e. goes i)

pub side_keeps : {P : Model → Type 0} {s : Context} (upper : Bool) (r : ℕ) (row : Row) (side : Side) (c : Float) (t : Term) → KeepsStep P s (λ M. side_step M upper r row side c t)
side_keeps upper r row side c t = record { keeps = λ M k w p q i. inv_side upper r row side c t w i }

module _ {A : Type 0} {g : Work → A} (b : Blind g) (M : Model) (upper : Bool) (r : ℕ) (row : Row) (side : Side) (c : Float) (t : Term) (w : Work) where
  leaves_rest : (rest : Option Float) → Leaves g w (from_rest M upper r row side c t rest w)
  unfolding from_rest implied
  leaves_rest none = same refl
  leaves_rest (some rest) = either (Leaves g w) _ (λ e. upper_leaves b M t.var w _ _) (λ e. lower_leaves b M t.var w _ _)

  leaves_side : Leaves g w (side_step M upper r row side c t w)
  unfolding side_step
  leaves_side = either (Leaves g w) _ (λ e. leaves_rest (rest_of side.sum side.ninf c)) (λ e. same refl)

pub inv_term : {M : Model} {k : ℕ} (r : ℕ) (row : Row) (act : Activity) (t : Term) (w : Work) → Inv M k w → InvStep M k (implied_term M r row act t w)
unfolding both
inv_term {M} {k} r row act t w i =
    rw (term_of M r row act t w) (inv_then (λ w1. side_step M false r row (lo_of row act) _ t w1) (inv_side true r row (hi_of row act) _ t w i) (λ u j. inv_side false r row (lo_of row act) _ t u j))

pub leaves_term : {A : Type 0} {g : Work → A} → Blind g → (M : Model) (r : ℕ) (row : Row) (act : Activity) (t : Term) (w : Work) → Leaves g w (implied_term M r row act t w)
unfolding both
leaves_term b M r row act t w =
    rw (term_of M r row act t w) (same_then (λ w1. side_step M false r row (lo_of row act) _ t w1) (leaves_side b M true r row (hi_of row act) _ t w)
    (λ u. leaves_side b M false r row (lo_of row act) _ t u))

-- ---- a half: by the rest of the row
side_is : (M : Model) (upper : Bool) (r : ℕ) (row : Row) (side : Side) (c : Float) (t : Term) (w : Work) → side_step M upper r row side c t w ≡ from_rest M upper r row side c t (rest_at side c) w
unfolding side_step rest_at choose
side_is M upper r row side c t w = go (is_finite side.bound) (rest_of side.sum side.ninf c)
  where
    go : (b : Bool) (z : Option Float) → choose b (from_rest M upper r row side c t z w) (next w) ≡ from_rest M upper r row side c t (choose b z none) w
    go true z = refl
    go false z = sym (rest_none M upper r row side c t w)

module _ (upper : Bool) (r : ℕ) (row : Row) (side : Side) (c : Float) (t : Term) {z : std.Option Float} (g : rest_is z ≡ rest_at side c) where
  half_is : {y : std.Option Float} → z ≡ y → (M : Model) (w : Work) → side_step M upper r row side c t w ≡ from_rest M upper r row side c t (rest_is y) w
  half_is e M w = side_is M upper r row side c t w ∙ ap (λ (y : Option Float). from_rest M upper r row side c t y w) (sym g ∙ ap rest_is e)

  pub half_none : {P : Model → Type 0} {s : Context} {f : Floats} {n : Numbers} → z ≡ std.None → Tries P s f n f n (Ok tt) (λ M. side_step M upper r row side c t)
  half_none e = record { does = λ M o k w p d h i. went_by (half_is e M w ∙ rest_none M upper r row side c t w) h }

  pub half_some : {P : Model → Type 0} {s : Context} {f f' : Floats} {n n' : Numbers} {y : Outcome} {rest : Float} → z ≡ std.Some rest
      → Tries P s f n f' n' y (λ M. from_rest M upper r row side c t (some rest))
      → Tries P s f n f' n' y (λ M. side_step M upper r row side c t)
  half_some e k = tries_as (λ M o j w p d h i. half_is e M w) k

-- ---- a bound that leaves its variable as it is
module _ {lists : Lists} {s : Context} {f : Floats} {n : Numbers} (upper : Bool) (r : ℕ) (x : Limits) (side : Side) (c : Float) (v : ℕ) (a rest : Float)
    {q : Float} {b : Bool} (eq : q ≡ quotient_of side.bound rest a) (eb : b ≡ bounds_above upper a) where
  pub rest_still : Held a → SideStill lists.domain.now s f side v q b → Tries (BoundingRows lists) s f n f n (Ok tt) (λ M. from_rest M upper r (bare x) side c (term v a) (some rest))
  rest_still ha t =
      record {
        does = λ M o k w p d h i.
            let u = relax_of M r (bare x) side c rest a in
            went_by
            (rest_some M upper r (bare x) side c (term v a) rest w
            ∙ ap (λ (y : Bool). choose y (tighten_upper M v (quotient_of side.bound rest a) u w) (tighten_lower M v (quotient_of side.bound rest a) u w)) (sym eb)
            ∙ ap (λ (y : Float). choose b (tighten_upper M v y u w) (tighten_lower M v y u w)) (sym eq)
            ∙ t.stays.stays lists M n o w refl (moves_bounding M p) d h u (relax_held M r (bare x) side c rest a) (t.relaxes.relaxed M r (bare x) side c rest a refl refl (sym d.feas) ha))
            h;
      }

-- ---- a bound that may move, by the side's direction
-- the row's limits are of the call and of the row
of_these : {M : Model} {s : Context} {ss : List ℕ} {r : ℕ} (x : Limits) → x.feas ≡ s.feas → x.terms ≡ get_or ss (r + 1) 0 - get_or ss r 0 → Call M s → Spans ss M → Of M r x.feas x.terms
of_these x ef et c e =
    let o = of_call c e et in
    record { feas = o.feas ∙ sym ef; terms = o.terms; params = o.params }

module _ {lists : Lists} {s : Context} {f f' : Floats} {n n' : Numbers} {z : Outcome} (upper : Bool) (r : ℕ) (x : Limits) (side : Side) (c : Float) (v : ℕ) (a rest : Float)
    {q relax : Float} {b : Bool} (eq : q ≡ quotient_of side.bound rest a) (ef : x.feas ≡ s.feas) (et : x.terms ≡ get_or lists.rows.starts.now (r + 1) 0 - get_or lists.rows.starts.now r 0)
    (er : Says x.feas x.terms relax (λ M r'. relax_of M r' (bare x) side c rest a)) (eb : b ≡ bounds_above upper a) where
  pub rest_tightens : Tries (Bounding lists) s f n f' n' z (tightens v q relax b) → Tries (BoundingRows lists) s f n f' n' z (λ M. from_rest M upper r (bare x) side c (term v a) (some rest))
  rest_tightens t =
      tries_as
      (λ M o k w p d h i.
      let u = relax_of M r (bare x) side c rest a in
      rest_some M upper r (bare x) side c (term v a) rest w
      ∙ ap (λ (y : Bool). choose y (tighten_upper M v (quotient_of side.bound rest a) u w) (tighten_lower M v (quotient_of side.bound rest a) u w)) (sym eb)
      ∙ ap (λ (y : Float). choose b (tighten_upper M v y u w) (tighten_lower M v y u w)) (sym eq)
      ∙ ap (λ (y : Float). choose b (tighten_upper M v q y w) (tighten_lower M v q y w)) (sym (er.of M r (of_these x ef et d (moves_spans M p)))))
      (tries_under moves_bounding t)

-- ---- quiet: a half that changes nothing, whatever row it is of
pub record Quiet (ds : List ℕ) (s : Context) (f : Floats) (side : Side) (upper : Bool) (c : Float) (v : ℕ) (a : Float) : Type 0 where
  pub quiet : (lists : Lists) (n : Numbers) (r : ℕ) (x : Limits) → lists.domain.now ≡ ds → Tries (BoundingRows lists) s f n f n (Ok tt) (λ M. side_step M upper r (bare x) side c (term v a))

module _ {ds : List ℕ} {s : Context} {f : Floats} (upper : Bool) (side : Side) (c : Float) (v : ℕ) (a : Float) {z : std.Option Float} (g : rest_is z ≡ rest_at side c) where
  pub quiet_none : z ≡ std.None → Quiet ds s f side upper c v a
  quiet_none u = record { quiet = λ lists n r x d. half_none upper r (bare x) side c (term v a) g u }

  pub quiet_still : {rest q : Float} {b : Bool} → z ≡ std.Some rest → q ≡ quotient_of side.bound rest a → b ≡ bounds_above upper a → Held a → SideStill ds s f side v q b
      → Quiet ds s f side upper c v a
  quiet_still {rest} {q} {b} u eq eb ha t =
      record {
        quiet = λ lists n r x d.
            half_some upper r (bare x) side c (term v a) g u
            (rest_still {lists = lists} upper r x side c v a rest eq eb ha (subst (λ (l : List ℕ). SideStill l s f side v q b) (sym d) t));
      }

-- ---- implied_term: its halves, of the parts that its variable's bounds give
module _ {f : Floats} (r : ℕ) (x : Limits) (act : Activity) (v : ℕ) (a : Float) {lo hi cmin cmax : Float} {high low : Side} (e₁ : lo ≡ get_or f.wlo v nan) (e₂ : hi ≡ get_or f.whi v nan)
    (e₃ : cmin ≡ range_min a lo hi) (e₄ : cmax ≡ range_max a lo hi) (e₅ : high ≡ hi_of (bare x) act) (e₆ : low ≡ lo_of (bare x) act) where
  term_is : {M : Model} {n : Numbers} {o : List ℕ} {w : Work} → Shows M f n o w → implied_term M r (bare x) act (term v a) w ≡ both M r (bare x) high low cmin cmax (term v a) w
  term_is {M} {n} {o} {w} h =
      let b₁ : range_min a (at w.wlo v) (at w.whi v) ≡ cmin = cc (wlo_is v h e₁, whi_is v h e₂, e₃) in
      let b₂ : range_max a (at w.wlo v) (at w.whi v) ≡ cmax = cc (wlo_is v h e₁, whi_is v h e₂, e₄) in
      term_of M r (bare x) act (term v a) w
      ∙ ap (λ (y : Float). both M r (bare x) (hi_of (bare x) act) (lo_of (bare x) act) y (range_max a (at w.wlo v) (at w.whi v)) (term v a) w) b₁
      ∙ ap (λ (y : Float). both M r (bare x) (hi_of (bare x) act) (lo_of (bare x) act) cmin y (term v a) w) b₂
      ∙ ap (λ (y : Side). both M r (bare x) y (lo_of (bare x) act) cmin cmax (term v a) w) (sym e₅)
      ∙ ap (λ (y : Side). both M r (bare x) high y cmin cmax (term v a) w) (sym e₆)

  module _ {P : Model → Type 0} {s : Context} {n : Numbers} where
    -- the second half after the first, and a first half that stops
    pub term_then : {n₁ n₂ : Numbers} {f₁ f₂ : Floats} {z : Outcome} → Tries P s f n f₁ n₁ (Ok tt) (λ M. side_step M true r (bare x) high cmin (term v a))
        → Tries P s f₁ n₁ f₂ n₂ z (λ M. side_step M false r (bare x) low cmax (term v a)) → Tries P s f n f₂ n₂ z (λ M. implied_term M r (bare x) act (term v a))
    unfolding both
    term_then t u = tries_as (λ M o k w p d y i. term_is y) (tries_then t (side_keeps true r (bare x) high cmin (term v a)) u)

    pub term_stop : {n₁ : Numbers} {f₁ : Floats} {e : Infeasible} → Tries P s f n f₁ n₁ (Err e) (λ M. side_step M true r (bare x) high cmin (term v a))
        → Tries P s f n f₁ n₁ (Err e) (λ M. implied_term M r (bare x) act (term v a))
    unfolding both
    term_stop t = tries_as (λ M o k w p d y i. term_is y) (tries_stop (λ M. side_step M false r (bare x) low cmax (term v a)) t)

  pub term_quiet : {lists : Lists} {s : Context} {n : Numbers} → Quiet lists.domain.now s f high true cmin v a → Quiet lists.domain.now s f low false cmax v a
      → Tries (BoundingRows lists) s f n f n (Ok tt) (λ M. implied_term M r (bare x) act (term v a))
  term_quiet {lists} {s} {n} p q = term_then (p.quiet lists n r x refl) (q.quiet lists n r x refl)
