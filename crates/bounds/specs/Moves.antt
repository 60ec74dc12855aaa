-- Implied bounds on the slices: one law for the four ways to tighten, by what the move is; and that each keeps the invariant.
use Rattle.std.specs.Prelude.{ℕ, ◌<◌, ◌≡◌, refl, Bool, true, false, List, length, get_or, set, Float, Ok, Err}
use Rattle.std.proofs.Common.{arith, ◌∙◌}
use Rattle.std.proofs.Math.Path.{ap, sym, subst}
use Rattle.std.proofs.Math.ListN.{length-set}
use Rattle.std.specs.Float.{nan}
use Rattle.floats.specs.Num.{choose, ◌⊖◌, ◌⊕◌, minf, maxf, is_finite, floor, ceil}
use Rattle.tolerances.specs.Tol.{at, bound_tolerance}
use Rattle.definition.specs.declared.Infeasible.{Infeasible}
use Rattle.definition.specs.Model.{Model}
use Rattle.definition.specs.Work.{Work, with_bounds, Step, stop, next, bound_tol}
use Rattle.definition.specs.Bounds.{fix, mark_tightened, emit_bounds, upper_int, upper_real, lower_int, lower_real, tighten_upper, tighten_lower}
use Rattle.space.specs.declared.Context.{Context}
use Rattle.space.specs.Store.{Floats, Numbers, put_wlo, put_whi, put_elo, put_ehi}
use Rattle.formulas.specs.Moves.{Move, by_move, upper_int_move, upper_real_move, lower_int_move, lower_real_move, upper_int_of, upper_real_of}
use Rattle.formulas.specs.Moves.{lower_int_of, lower_real_of, emits_tighter, emitted_lower, emitted_upper, emit_bounds_of}
use Rattle.view.specs.Call.{Call}
use Rattle.readers.specs.Vars.{int_code, int_is}
use Rattle.view.specs.declared.Lists.{Lists}
use Rattle.view.specs.Shows.{Shows, StepShown, Outcome}
use Rattle.view.specs.Inv.{Inv}
use Rattle.view.specs.Lists.{yes, no, either}
use Rattle.view.specs.Acts.{Ready, Acts, Tries, Reads, ActsN, acts_then, of_numbers}
use Rattle.view.specs.Steps.{InvStep, stops, goes, tries_under}
use Rattle.view.specs.Adjacency.{Adj}
use Rattle.view.specs.Marks.{inv_mark_var}
use Rattle.view.specs.Known.{Bounding, bounding_adj}
use Rattle.view.specs.Bounds.{wlo_acts, whi_acts, elo_acts, ehi_acts, wlo_keeps, whi_keeps, elo_keeps, ehi_keeps, inv_tighten, wlo_is, whi_is, elo_is, ehi_is, went_by, stopped_by}

-- ---- a move, as the slices have it
move_is : (s : Context) (F : Model → Work → Step) (T : Model → Work → Work) (mv : Model → Work → Move)
    → ((M : Model) (w : Work) → Call M s → by_move (mv M w) (next w) (stop w.counts) (next (T M w)) ≡ F M w)
    → (z : Move) (M : Model) (w : Work) → Call M s → mv M w ≡ z → F M w ≡ by_move z (next w) (stop w.counts) (next (T M w))
move_is s F T mv of z M w c e = sym (of M w c) ∙ ap (λ (y : Move). by_move y (next w) (stop w.counts) (next (T M w))) e

module _ {P : Model → Type 0} {s : Context} {f : Floats} {n : Numbers} (F : Model → Work → Step) (T : Model → Work → Work) (mv : Model → Work → Move)
    (of : (M : Model) (w : Work) → Call M s → by_move (mv M w) (next w) (stop w.counts) (next (T M w)) ≡ F M w) where
  pub move_leave : {z : Move} → Reads P s f n z mv → z ≡ Ok false → Tries P s f n f n (Ok tt) F
  unfolding by_move
  move_leave r e = record { does = λ M o k w p c h i. went_by (move_is s F T mv of (Ok false) M w c (r.reads M o k w p c h i ∙ e)) h }

  pub move_stop : {z : Move} {x y : Infeasible} → Reads P s f n z mv → z ≡ Err x → Tries P s f n f n (Err y) F
  unfolding by_move
  move_stop {x = x} r e = record { does = λ M o k w p c h i. stopped_by {w = w} (move_is s F T mv of (Err x) M w c (r.reads M o k w p c h i ∙ e)) h }

  pub move_tighten : {z : Move} {f' : Floats} {n' : Numbers} → Reads P s f n z mv → z ≡ Ok true → Acts P s f n f' n' T → Tries P s f n f' n' (Ok tt) F
  unfolding by_move
  move_tighten r e a = record { does = λ M o k w p c h i. went_by (move_is s F T mv of (Ok true) M w c (r.reads M o k w p c h i ∙ e)) (a.does M o k w p c h i) }

-- ---- the four
-- the tolerance of an emitted bound
tol_is : (M : Model) (s : Context) (upper : Bool) (v : ℕ) (w : Work) {x z : Float} → Call M s → x ≡ choose upper (at w.ehi v) (at w.elo v)
    → z ≡ bound_tolerance s.feas x → z ≡ bound_tol M w v upper
unfolding bound_tol
tol_is M s upper v w c e g = g ∙ cc (c.feas, e)

-- what each of them does where it tightens
abbrev pub lower_upper : ℕ → Float → Model → Work → Work
lower_upper v q M w = mark_tightened M v (with_bounds w.wlo (set w.whi v (minf (at w.whi v) q)) w.elo (set w.ehi v q) w)

abbrev pub raise_lower : ℕ → Float → Model → Work → Work
raise_lower v q M w = mark_tightened M v (with_bounds (set w.wlo v (maxf (at w.wlo v) q)) w.whi (set w.elo v q) w.ehi w)

abbrev pub work_upper : ℕ → Float → Model → Work → Work
work_upper v q M w = mark_tightened M v (with_bounds w.wlo (set w.whi v q) w.elo w.ehi w)

abbrev pub work_lower : ℕ → Float → Model → Work → Work
work_lower v q M w = mark_tightened M v (with_bounds (set w.wlo v q) w.whi w.elo w.ehi w)

module _ {s : Context} {adjacency : List ℕ} {f : Floats} {n : Numbers} (v : ℕ) (q : Float) where
  -- the moves are read off the slices
  upper_int_reads : {eh wl : Float} {z : Move} → eh ≡ get_or f.ehi v nan → wl ≡ get_or f.wlo v nan → z ≡ upper_int_move q eh wl → Reads (Adj adjacency) s f n z
      (λ M w. upper_int_move q (at w.ehi v) (at w.wlo v))
  upper_int_reads e₁ e₂ g = record { reads = λ M o k w p c h i. cc (ehi_is v h e₁, wlo_is v h e₂, g) }

  lower_int_reads : {el wh : Float} {z : Move} → el ≡ get_or f.elo v nan → wh ≡ get_or f.whi v nan → z ≡ lower_int_move q el wh → Reads (Adj adjacency) s f n z
      (λ M w. lower_int_move q (at w.elo v) (at w.whi v))
  lower_int_reads e₁ e₂ g = record { reads = λ M o k w p c h i. cc (elo_is v h e₁, whi_is v h e₂, g) }

  upper_real_reads : {wh wl el tol : Float} {z : Move} → wh ≡ get_or f.whi v nan → wl ≡ get_or f.wlo v nan → el ≡ get_or f.elo v nan
      → tol ≡ bound_tolerance s.feas el → z ≡ upper_real_move q wh wl tol
      → Reads (Adj adjacency) s f n z (λ M w. upper_real_move q (at w.whi v) (at w.wlo v) (bound_tol M w v false))
  upper_real_reads {el = el} e₁ e₂ e₃ e₄ g =
      record { reads = λ M o k w p c h i. let t = tol_is M s false v w c (elo_is v h e₃ ∙ sym (no _ _ refl)) e₄ in cc (whi_is v h e₁, wlo_is v h e₂, t, g) }

  lower_real_reads : {wl wh eh tol : Float} {z : Move} → wl ≡ get_or f.wlo v nan → wh ≡ get_or f.whi v nan → eh ≡ get_or f.ehi v nan
      → tol ≡ bound_tolerance s.feas eh → z ≡ lower_real_move q wl wh tol
      → Reads (Adj adjacency) s f n z (λ M w. lower_real_move q (at w.wlo v) (at w.whi v) (bound_tol M w v true))
  lower_real_reads {eh = eh} e₁ e₂ e₃ e₄ g =
      record { reads = λ M o k w p c h i. let t = tol_is M s true v w c (ehi_is v h e₃ ∙ sym (yes _ _ refl)) e₄ in cc (wlo_is v h e₁, whi_is v h e₂, t, g) }

  -- ---- upper_int
  module _ {eh wl : Float} {z : Move} (e₁ : eh ≡ get_or f.ehi v nan) (e₂ : wl ≡ get_or f.wlo v nan) (g : z ≡ upper_int_move q eh wl) where
    pub upper_int_leave : z ≡ Ok false → Tries (Adj adjacency) s f n f n (Ok tt) (λ M. upper_int M v q)
    upper_int_leave e = move_leave (λ M. upper_int M v q) (lower_upper v q) _ (λ M w c. upper_int_of M v w q) (upper_int_reads e₁ e₂ g) e

    pub upper_int_stop : {x y : Infeasible} → z ≡ Err x → Tries (Adj adjacency) s f n f n (Err y) (λ M. upper_int M v q)
    upper_int_stop e = move_stop (λ M. upper_int M v q) (lower_upper v q) _ (λ M w c. upper_int_of M v w q) (upper_int_reads e₁ e₂ g) e

    pub upper_int_tight : {wh y : Float} {f₁ f₂ : Floats} {n' : Numbers} → z ≡ Ok true → wh ≡ get_or f.whi v nan → f₁ ≡ put_ehi v q f → y ≡ minf wh q → f₂ ≡ put_whi v y f₁
        → ActsN (Adj adjacency) s n n' (λ M. mark_tightened M v) → Tries (Adj adjacency) s f n f₂ n' (Ok tt) (λ M. upper_int M v q)
    upper_int_tight {y = y} {f₂ = f₂} {n' = n'} e eh' a₁ ey a₂ m =
        let a = acts_then (ehi_acts a₁) (ehi_keeps v q) (acts_then (whi_acts a₂) (whi_keeps v y) (of_numbers m)) in
        let b : Acts (Adj adjacency) s f n f₂ n' (lower_upper v q) =
        record {
          does = λ M o k w p c h i.
              subst (λ (x : Float). Shows M f₂ n' o (mark_tightened M v (with_bounds w.wlo (set w.whi v x) w.elo (set w.ehi v q) w)))
              (ey ∙ ap (λ (x : Float). minf x q) (whi_is v h eh'))
              (a.does M o k w p c h i);
        } in
        move_tighten (λ M. upper_int M v q) (lower_upper v q) _ (λ M w c. upper_int_of M v w q) (upper_int_reads e₁ e₂ g) e b

  -- ---- lower_int
  module _ {el wh : Float} {z : Move} (e₁ : el ≡ get_or f.elo v nan) (e₂ : wh ≡ get_or f.whi v nan) (g : z ≡ lower_int_move q el wh) where
    pub lower_int_leave : z ≡ Ok false → Tries (Adj adjacency) s f n f n (Ok tt) (λ M. lower_int M v q)
    lower_int_leave e = move_leave (λ M. lower_int M v q) (raise_lower v q) _ (λ M w c. lower_int_of M v w q) (lower_int_reads e₁ e₂ g) e

    pub lower_int_stop : {x y : Infeasible} → z ≡ Err x → Tries (Adj adjacency) s f n f n (Err y) (λ M. lower_int M v q)
    lower_int_stop e = move_stop (λ M. lower_int M v q) (raise_lower v q) _ (λ M w c. lower_int_of M v w q) (lower_int_reads e₁ e₂ g) e

    pub lower_int_tight : {wl y : Float} {f₁ f₂ : Floats} {n' : Numbers} → z ≡ Ok true → wl ≡ get_or f.wlo v nan → f₁ ≡ put_elo v q f → y ≡ maxf wl q → f₂ ≡ put_wlo v y f₁
        → ActsN (Adj adjacency) s n n' (λ M. mark_tightened M v) → Tries (Adj adjacency) s f n f₂ n' (Ok tt) (λ M. lower_int M v q)
    lower_int_tight {y = y} {f₂ = f₂} {n' = n'} e el' a₁ ey a₂ m =
        let a = acts_then (elo_acts a₁) (elo_keeps v q) (acts_then (wlo_acts a₂) (wlo_keeps v y) (of_numbers m)) in
        let b : Acts (Adj adjacency) s f n f₂ n' (raise_lower v q) =
        record {
          does = λ M o k w p c h i.
              subst (λ (x : Float). Shows M f₂ n' o (mark_tightened M v (with_bounds (set w.wlo v x) w.whi (set w.elo v q) w.ehi w)))
              (ey ∙ ap (λ (x : Float). maxf x q) (wlo_is v h el'))
              (a.does M o k w p c h i);
        } in
        move_tighten (λ M. lower_int M v q) (raise_lower v q) _ (λ M w c. lower_int_of M v w q) (lower_int_reads e₁ e₂ g) e b

  -- ---- upper_real
  module _ {wh wl el tol : Float} {z : Move} (e₁ : wh ≡ get_or f.whi v nan) (e₂ : wl ≡ get_or f.wlo v nan) (e₃ : el ≡ get_or f.elo v nan)
      (e₄ : tol ≡ bound_tolerance s.feas el) (g : z ≡ upper_real_move q wh wl tol) where
    pub upper_real_leave : z ≡ Ok false → Tries (Adj adjacency) s f n f n (Ok tt) (λ M. upper_real M v q)
    upper_real_leave e = move_leave (λ M. upper_real M v q) (work_upper v q) _ (λ M w c. upper_real_of M v w q c.params) (upper_real_reads e₁ e₂ e₃ e₄ g) e

    pub upper_real_stop : {x y : Infeasible} → z ≡ Err x → Tries (Adj adjacency) s f n f n (Err y) (λ M. upper_real M v q)
    upper_real_stop e = move_stop (λ M. upper_real M v q) (work_upper v q) _ (λ M w c. upper_real_of M v w q c.params) (upper_real_reads e₁ e₂ e₃ e₄ g) e

    pub upper_real_tight : {f' : Floats} {n' : Numbers} → z ≡ Ok true → f' ≡ put_whi v q f → ActsN (Adj adjacency) s n n' (λ M. mark_tightened M v)
        → Tries (Adj adjacency) s f n f' n' (Ok tt) (λ M. upper_real M v q)
    upper_real_tight {f' = f'} {n' = n'} e a m =
        let b : Acts (Adj adjacency) s f n f' n' (work_upper v q) = record { does = (acts_then (whi_acts a) (whi_keeps v q) (of_numbers m)).does } in
        move_tighten (λ M. upper_real M v q) (work_upper v q) _ (λ M w c. upper_real_of M v w q c.params) (upper_real_reads e₁ e₂ e₃ e₄ g) e b

  -- ---- lower_real
  module _ {wl wh eh tol : Float} {z : Move} (e₁ : wl ≡ get_or f.wlo v nan) (e₂ : wh ≡ get_or f.whi v nan) (e₃ : eh ≡ get_or f.ehi v nan)
      (e₄ : tol ≡ bound_tolerance s.feas eh) (g : z ≡ lower_real_move q wl wh tol) where
    pub lower_real_leave : z ≡ Ok false → Tries (Adj adjacency) s f n f n (Ok tt) (λ M. lower_real M v q)
    lower_real_leave e = move_leave (λ M. lower_real M v q) (work_lower v q) _ (λ M w c. lower_real_of M v w q c.params) (lower_real_reads e₁ e₂ e₃ e₄ g) e

    pub lower_real_stop : {x y : Infeasible} → z ≡ Err x → Tries (Adj adjacency) s f n f n (Err y) (λ M. lower_real M v q)
    lower_real_stop e = move_stop (λ M. lower_real M v q) (work_lower v q) _ (λ M w c. lower_real_of M v w q c.params) (lower_real_reads e₁ e₂ e₃ e₄ g) e

    pub lower_real_tight : {f' : Floats} {n' : Numbers} → z ≡ Ok true → f' ≡ put_wlo v q f → ActsN (Adj adjacency) s n n' (λ M. mark_tightened M v)
        → Tries (Adj adjacency) s f n f' n' (Ok tt) (λ M. lower_real M v q)
    lower_real_tight {f' = f'} {n' = n'} e a m =
        let b : Acts (Adj adjacency) s f n f' n' (work_lower v q) = record { does = (acts_then (wlo_acts a) (wlo_keeps v q) (of_numbers m)).does } in
        move_tighten (λ M. lower_real M v q) (work_lower v q) _ (λ M w c. lower_real_of M v w q c.params) (lower_real_reads e₁ e₂ e₃ e₄ g) e b

-- ---- tighten_upper and tighten_lower: by the variable's kind
-- one of the two, by which end it is
abbrev pub tightens : ℕ → Float → Float → Bool → Model → Work → Step
tightens v q relax above M w = choose above (tighten_upper M v q relax w) (tighten_lower M v q relax w)

-- two definitions that agree
tries_same : {P : Model → Type 0} {s : Context} {f f' : Floats} {n n' : Numbers} {z : Outcome} {F G : Model → Work → Step}
    → ((M : Model) (w : Work) → P M → Call M s → F M w ≡ G M w) → Tries P s f n f' n' z G → Tries P s f n f' n' z F
tries_same {f' = f'} {n' = n'} {z = z} e t =
    record { does = λ M o k w p c h i. subst (λ (y : Step). StepShown M f' n' o z y) (sym (e M w p c)) (t.does M o k w p c h i) }

-- there is a domain for every variable
pub bounding_domain : {s : Context} {lists : Lists} {f : Floats} {n : Numbers} {v : ℕ} → Ready (Bounding lists) s f n → v < s.vars → v < length lists.domain.now
bounding_domain R p = omega (arith, p, R.call.vars, R.call.domains, ap length R.known.domain)

module _ {s : Context} {lists : Lists} {f : Floats} {n : Numbers} (v : ℕ) (q relax : Float) where
  pub upper_skip : is_finite q ≡ false → Tries (Bounding lists) s f n f n (Ok tt) (λ M. tighten_upper M v q relax)
  unfolding tighten_upper
  upper_skip e = record { does = λ M o k w p c h i. went_by (no _ _ e) h }

  pub lower_skip : is_finite q ≡ false → Tries (Bounding lists) s f n f n (Ok tt) (λ M. tighten_lower M v q relax)
  unfolding tighten_lower
  lower_skip e = record { does = λ M o k w p c h i. went_by (no _ _ e) h }

module _ {s : Context} {lists : Lists} {f f' : Floats} {n n' : Numbers} {z : Outcome} (v : ℕ) (q relax : Float) where
  pub upper_whole : {b : Bool} {x : Float} → is_finite q ≡ true → b ≡ int_code s.mip (get_or lists.domain.now v 0) → b ≡ true → x ≡ floor (q ⊕ relax)
      → Tries (Adj lists.adjacency.now) s f n f' n' z (λ M. upper_int M v x) → Tries (Bounding lists) s f n f' n' z (λ M. tighten_upper M v q relax)
  unfolding tighten_upper
  upper_whole {x = x} e g b g' t =
      tries_same (λ M w p c. yes _ _ e ∙ yes _ _ (int_is v c p.domain ∙ sym g ∙ b) ∙ ap (λ (y : Float). upper_int M v y w) (sym g')) (tries_under bounding_adj t)

  pub lower_whole : {b : Bool} {x : Float} → is_finite q ≡ true → b ≡ int_code s.mip (get_or lists.domain.now v 0) → b ≡ true → x ≡ ceil (q ⊖ relax)
      → Tries (Adj lists.adjacency.now) s f n f' n' z (λ M. lower_int M v x) → Tries (Bounding lists) s f n f' n' z (λ M. tighten_lower M v q relax)
  unfolding tighten_lower
  lower_whole {x = x} e g b g' t =
      tries_same (λ M w p c. yes _ _ e ∙ yes _ _ (int_is v c p.domain ∙ sym g ∙ b) ∙ ap (λ (y : Float). lower_int M v y w) (sym g')) (tries_under bounding_adj t)

  pub upper_other : {b : Bool} → is_finite q ≡ true → b ≡ int_code s.mip (get_or lists.domain.now v 0) → b ≡ false → Tries (Adj lists.adjacency.now) s f n f' n' z
      (λ M. upper_real M v (q ⊕ relax)) → Tries (Bounding lists) s f n f' n' z (λ M. tighten_upper M v q relax)
  unfolding tighten_upper
  upper_other e g b t = tries_same (λ M w p c. yes _ _ e ∙ no _ _ (int_is v c p.domain ∙ sym g ∙ b)) (tries_under bounding_adj t)

  pub lower_other : {b : Bool} → is_finite q ≡ true → b ≡ int_code s.mip (get_or lists.domain.now v 0) → b ≡ false → Tries (Adj lists.adjacency.now) s f n f' n' z
      (λ M. lower_real M v (q ⊖ relax)) → Tries (Bounding lists) s f n f' n' z (λ M. tighten_lower M v q relax)
  unfolding tighten_lower
  lower_other e g b t = tries_same (λ M w p c. yes _ _ e ∙ no _ _ (int_is v c p.domain ∙ sym g ∙ b)) (tries_under bounding_adj t)

-- of either end
module _ {s : Context} {lists : Lists} {f f' : Floats} {n n' : Numbers} {z : Outcome} (v : ℕ) (q relax : Float) {above : Bool} where
  pub from_above : above ≡ true → Tries (Bounding lists) s f n f' n' z (λ M. tighten_upper M v q relax) → Tries (Bounding lists) s f n f' n' z (tightens v q relax above)
  from_above a t = tries_same (λ M w p c. yes _ _ a) t

  pub from_below : above ≡ false → Tries (Bounding lists) s f n f' n' z (λ M. tighten_lower M v q relax) → Tries (Bounding lists) s f n f' n' z (tightens v q relax above)
  from_below a t = tries_same (λ M w p c. no _ _ a) t

pub skip : {s : Context} {lists : Lists} {f : Floats} {n : Numbers} (v : ℕ) (q relax : Float) (above : Bool) → is_finite q ≡ false → Tries (Bounding lists) s f n f n (Ok tt) (tightens v q relax above)
skip v q relax true e = from_above v q relax refl (upper_skip v q relax e)
skip v q relax false e = from_below v q relax refl (lower_skip v q relax e)

-- ---- emit_bounds: the row's variables are marked first, then the four bounds are stored
all_four : {M : Model} {f f' : Floats} {n n₀ : Numbers} {o : List ℕ} {w u : Work} (v : ℕ) (x y lo hi : Float) → Shows M f n₀ o w → Shows M f n o u
    → f' ≡ put_ehi v hi (put_elo v lo (put_whi v y (put_wlo v x f)))
    → Shows M f' n o (with_bounds (set w.wlo v x) (set w.whi v y) (set w.elo v lo) (set w.ehi v hi) u)
all_four v x y lo hi h g e =
    rw e
    (record {
      wlo = ap (λ (l : List Float). set l v x) h.wlo;
      whi = ap (λ (l : List Float). set l v y) h.whi;
      elo = ap (λ (l : List Float). set l v lo) h.elo;
      ehi = ap (λ (l : List Float). set l v hi) h.ehi;
      dirty = g.dirty;
      coeff_dirty = g.coeff_dirty;
      queued = g.queued;
      queue = g.queue;
      counts = g.counts;
      wave = g.wave;
      alive = g.alive;
      rows = g.rows;
    })

pub record EmitsFour (v : ℕ) (lo hi : Float) (f f' : Floats) : Type 0 where
  pub stores : f' ≡ put_ehi v hi (put_elo v lo (put_whi v (emitted_upper (get_or f.whi v nan) lo hi) (put_wlo v (emitted_lower (get_or f.wlo v nan) lo hi) f)))

pub emits_four : (v : ℕ) (lo hi : Float) {wl wh x y : Float} {f f₁ f₂ f₃ f₄ : Floats} → wl ≡ get_or f.wlo v nan → wh ≡ get_or f.whi v nan
    → x ≡ emitted_lower wl lo hi → f₁ ≡ put_wlo v x f → y ≡ emitted_upper wh lo hi → f₂ ≡ put_whi v y f₁
    → f₃ ≡ put_elo v lo f₂ → f₄ ≡ put_ehi v hi f₃ → EmitsFour v lo hi f f₄
emits_four v lo hi e₁ e₂ x₁ a₁ y₁ a₂ a₃ a₄ = record { stores = rw (a₄, a₃, a₂, a₁, x₁, y₁, e₁, e₂) }

-- the state after, by whether the bounds got tighter
emit_is : (f : Floats) (n : Numbers) (v : ℕ) (lo hi : Float) {el eh : Float} {b c : Bool} {M : Model} {o : List ℕ} {w : Work} → el ≡ get_or f.elo v nan
    → eh ≡ get_or f.ehi v nan → b ≡ emits_tighter lo hi el eh → Shows M f n o w → b ≡ c → emit_bounds M v lo hi w
    ≡ with_bounds (set w.wlo v (emitted_lower (at w.wlo v) lo hi)) (set w.whi v (emitted_upper (at w.whi v) lo hi)) (set w.elo v lo) (set w.ehi v hi) (choose c (mark_tightened M v w) w)
emit_is f n v lo hi {c = c} {M} {o} {w} e₁ e₂ g h t =
    let z : emits_tighter lo hi (at w.elo v) (at w.ehi v) ≡ c = cc (elo_is v h e₁, ehi_is v h e₂, g, t) in
    sym (emit_bounds_of M v lo hi w)
    ∙ ap (λ (a : Bool). with_bounds (set w.wlo v (emitted_lower (at w.wlo v) lo hi)) (set w.whi v (emitted_upper (at w.whi v) lo hi))
    (set w.elo v lo) (set w.ehi v hi) (choose a (mark_tightened M v w) w)) z

module _ {s : Context} {adjacency : List ℕ} {f f' : Floats} {n : Numbers} (v : ℕ) (lo hi : Float) {el eh : Float} {b : Bool} (e₁ : el ≡ get_or f.elo v nan)
    (e₂ : eh ≡ get_or f.ehi v nan) (g : b ≡ emits_tighter lo hi el eh) where
  pub emit_tighter : {n' : Numbers} → b ≡ true → ActsN (Adj adjacency) s n n' (λ M. mark_tightened M v) → EmitsFour v lo hi f f' → Acts (Adj adjacency) s f n f' n' (λ M. emit_bounds M v lo hi)
  unfolding choose
  emit_tighter {n'} t m a =
      record {
        does = λ M o k w p c h i.
            let u = m.does M f o k w p c h i in
            subst (λ (y : Work). Shows M f' n' o y) (sym (emit_is f n v lo hi e₁ e₂ g h t))
            (all_four v _ _ lo hi h u (a.stores ∙ rw (h.wlo, h.whi)));
      }

  pub emit_same : b ≡ false → EmitsFour v lo hi f f' → Acts (Adj adjacency) s f n f' n (λ M. emit_bounds M v lo hi)
  unfolding choose
  emit_same t a =
      record {
        does = λ M o k w p c h i. subst (λ (y : Work). Shows M f' n o y) (sym (emit_is f n v lo hi e₁ e₂ g h t)) (all_four v _ _ lo hi h h (a.stores ∙ rw (h.wlo, h.whi)));
      }

-- ---- each keeps the invariant
four_keeps : {M : Model} {k : ℕ} (v : ℕ) (x y a b : Float) (w u : Work) → Inv M k w → Inv M k u → Inv M k (with_bounds (set w.wlo v x) (set w.whi v y) (set w.elo v a) (set w.ehi v b) u)
four_keeps v x y a b w u i j =
    record {
      wlos = length-set w.wlo v x ∙ i.wlos;
      whis = length-set w.whi v y ∙ i.whis;
      elos = length-set w.elo v a ∙ i.elos;
      ehis = length-set w.ehi v b ∙ i.ehis;
      dirties = j.dirties;
      coeff_dirties = j.coeff_dirties;
      rowses = j.rowses;
      queue = j.queue;
      room = j.room;
      rows = j.rows;
    }

module _ {M : Model} {k : ℕ} (v : ℕ) (w : Work) (i : Inv M k w) where
  inv_tight : (a b c d : List Float) → length a ≡ length M.lower → length b ≡ length M.lower → length c ≡ length M.lower → length d ≡ length M.lower
      → Inv M k (mark_tightened M v (with_bounds a b c d w))
  inv_tight a b c d la lb lc ld =
      inv_tighten v (with_bounds a b c d w)
      (record { wlos = la; whis = lb; elos = lc; ehis = ld; dirties = i.dirties; coeff_dirties = i.coeff_dirties; rowses = i.rowses; queue = i.queue; room = i.room; rows = i.rows })

  pub inv_fix : (x : Float) → Inv M k (fix M v x w)
  unfolding fix
  inv_fix x =
      inv_mark_var v _
      (record {
        wlos = length-set w.wlo v x ∙ i.wlos;
        whis = length-set w.whi v x ∙ i.whis;
        elos = length-set w.elo v x ∙ i.elos;
        ehis = length-set w.ehi v x ∙ i.ehis;
        dirties = i.dirties;
        coeff_dirties = i.coeff_dirties;
        rowses = i.rowses;
        queue = i.queue;
        room = i.room;
        rows = i.rows;
      })

  pub inv_emit : (lo hi : Float) → Inv M k (emit_bounds M v lo hi w)
  unfolding emit_bounds
  inv_emit lo hi = four_keeps v _ _ lo hi w _ i (either (Inv M k) _ (λ e. inv_tighten v w i) (λ e. i))

  inv_upper_int : (q : Float) → InvStep M k (upper_int M v q w)
  unfolding upper_int
  inv_upper_int q =
      either (InvStep M k) _ (λ e. either (InvStep M k) _ (λ e'. stops)
      (λ e'. goes (inv_tight _ _ _ _ i.wlos (length-set w.whi v _ ∙ i.whis) i.elos (length-set w.ehi v q ∙ i.ehis))))
      (λ e. goes i)

  inv_lower_int : (q : Float) → InvStep M k (lower_int M v q w)
  unfolding lower_int
  inv_lower_int q =
      either (InvStep M k) _ (λ e. either (InvStep M k) _ (λ e'. stops)
      (λ e'. goes (inv_tight _ _ _ _ (length-set w.wlo v _ ∙ i.wlos) i.whis (length-set w.elo v q ∙ i.elos) i.ehis)))
      (λ e. goes i)

  inv_upper_real : (q : Float) → InvStep M k (upper_real M v q w)
  unfolding upper_real
  inv_upper_real q =
      either (InvStep M k) _ (λ e. either (InvStep M k) _ (λ e'. either (InvStep M k) _ (λ e''. stops) (λ e''. goes i))
      (λ e'. goes (inv_tight _ _ _ _ i.wlos (length-set w.whi v q ∙ i.whis) i.elos i.ehis)))
      (λ e. goes i)

  inv_lower_real : (q : Float) → InvStep M k (lower_real M v q w)
  unfolding lower_real
  inv_lower_real q =
      either (InvStep M k) _ (λ e. either (InvStep M k) _ (λ e'. either (InvStep M k) _ (λ e''. stops) (λ e''. goes i))
      (λ e'. goes (inv_tight _ _ _ _ (length-set w.wlo v q ∙ i.wlos) i.whis i.elos i.ehis)))
      (λ e. goes i)

  pub inv_upper : (q relax : Float) → InvStep M k (tighten_upper M v q relax w)
  unfolding tighten_upper
  inv_upper q relax = either (InvStep M k) _ (λ e. either (InvStep M k) _ (λ e'. inv_upper_int _) (λ e'. inv_upper_real _)) (λ e. goes i)

  pub inv_lower : (q relax : Float) → InvStep M k (tighten_lower M v q relax w)
  unfolding tighten_lower
  inv_lower q relax = either (InvStep M k) _ (λ e. either (InvStep M k) _ (λ e'. inv_lower_int _) (λ e'. inv_lower_real _)) (λ e. goes i)

  pub inv_tightens : (q relax : Float) (above : Bool) → InvStep M k (tightens v q relax above M w)
  inv_tightens q relax above = either (InvStep M k) above (λ e. inv_upper q relax) (λ e. inv_lower q relax)
