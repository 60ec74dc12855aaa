-- Dual fixing, variable by variable, on the slices; and that it keeps the invariant.
use Prim.Native.Nat.{ℕ, zero, suc, ◌+◌, ◌-◌, ◌≤◌, ◌<◌}
use Rattle.std.proofs.Common.{arith, add-one, sym, ◌∙◌, subst}
use Rattle.std.specs.Prelude.{◌≡◌, refl, Bool, true, not, ◌||◌, List, map, eqb, length, get_or, Float}
use Rattle.std.proofs.Math.Path.{ap}
use Rattle.std.proofs.Math.Bool.{false}
use Rattle.std.specs.Float.{nan}
use Rattle.floats.specs.Num.{choose}
use Rattle.tolerances.specs.Tol.{at}
use Rattle.definition.specs.Model.{Model, is_int}
use Rattle.definition.specs.Work.{Work, fixed}
use Rattle.definition.specs.Bounds.{fix}
use Rattle.definition.specs.Dual.{bad_dec, bad_inc, none_bad, may_fall, may_rise, dual_var, dual_from, dual_fix}
use Rattle.formulas.specs.Fixing.{fixed_at, fixed_of, falls_at, rises_at, may_fall_of, may_rise_of}
use Rattle.space.specs.declared.Context.{Context}
use Rattle.space.specs.Store.{Floats, Numbers}
use Rattle.view.specs.declared.Lists.{Lists}
use Rattle.view.specs.Call.{Call}
use Rattle.view.specs.Shows.{is_one, Shows}
use Rattle.view.specs.Inv.{Inv}
use Rattle.view.specs.Lists.{yes, no, either, get_d_map}
use Rattle.view.specs.Acts.{Ready, Acts}
use Rattle.view.specs.Changes.{ActsBool, KeepsBool, ready_changed}
use Rattle.view.specs.Adjacency.{Adjacency, Adj}
use Rattle.view.specs.Known.{Spans}
use Rattle.view.specs.Bounds.{wlo_is, whi_is, elo_is, ehi_is}
use Rattle.bounds.specs.Flags.{FlagsKept, flags_refl}
use Rattle.bounds.specs.Flags as kept
use Rattle.bounds.specs.Moves.{inv_fix}
use Rattle.readers.specs.Reading.{ReadsF, ReadsM, Domains}
use Rattle.dual.specs.Flags.{Flags, flags_dec, flags_inc, shows_flags}
use Rattle.dual.specs.Barring.{fall_bars, rise_bars, each_row, falls_are, rises_are}

-- what fixing knows of the model: the objective, the domains, and the rows of each variable
pub record Fixing (os : List Float) (lists : Lists) (M : Model) : Type 0 where
  pub obj : M.obj ≡ os
  pub domain : M.domain ≡ lists.domain.now
  pub adjacency : Adjacency M lists.adjacency.now

-- and where the rows' spans are
pub record Dual (os : List Float) (lists : Lists) (M : Model) : Type 0 where
  pub obj : M.obj ≡ os
  pub domain : M.domain ≡ lists.domain.now
  pub starts : M.starts ≡ lists.rows.starts.now
  pub adjacency : Adjacency M lists.adjacency.now

pub fixing_adj : {os : List Float} {lists : Lists} (M : Model) → Fixing os lists M → Adjacency M lists.adjacency.now
fixing_adj M k = k.adjacency

pub fixing_domains : {os : List Float} {lists : Lists} (M : Model) → Fixing os lists M → Domains lists.domain.now M
fixing_domains M k = record { domain = k.domain }

pub dual_fixing : {os : List Float} {lists : Lists} (M : Model) → Dual os lists M → Fixing os lists M
dual_fixing M k = record { obj = k.obj; domain = k.domain; adjacency = k.adjacency }

pub dual_spans : {os : List Float} {lists : Lists} (M : Model) → Dual os lists M → Spans lists.rows.starts.now M
dual_spans M k = record { starts = k.starts }

pub obj_in : {os : List Float} {lists : Lists} {s : Context} {f : Floats} {n : Numbers} {v : ℕ} → Ready (Fixing os lists) s f n → v < s.vars → v < length os
obj_in R p = omega (arith, p, R.call.vars, R.call.objs, ap length R.known.obj)

pub domain_in : {os : List Float} {lists : Lists} {s : Context} {f : Floats} {n : Numbers} {v : ℕ} → Ready (Fixing os lists) s f n → v < s.vars → v < length lists.domain.now
domain_in R p = omega (arith, p, R.call.vars, R.call.domains, ap length R.known.domain)

-- ---- stays: whether a variable is left alone
abbrev pub stays_at : Model → ℕ → Work → Bool
stays_at M v w = fixed w v || not (is_int M v)

fixed_is : (v : ℕ) {lo hi : Float} {b : Bool} {M : Model} {f : Floats} {n : Numbers} {o : List ℕ} {w : Work} → lo ≡ get_or f.elo v nan
    → hi ≡ get_or f.ehi v nan → b ≡ fixed_at lo hi → Shows M f n o w → fixed w v ≡ b
fixed_is v {w = w} el eh eb h = sym (fixed_of v w) ∙ cc (elo_is v h el, ehi_is v h eh, eb)

module _ {ds : List ℕ} {s : Context} {f : Floats} (v : ℕ) {lo hi : Float} {b : Bool} (el : lo ≡ get_or f.elo v nan) (eh : hi ≡ get_or f.ehi v nan) (eb : b ≡ fixed_at lo hi) where
  pub stays_fixed : b ≡ true → ReadsF (Domains ds) s f true (λ M w. stays_at M v w)
  stays_fixed t = record { reads = λ M n o k w p c h i. rw (fixed_is v el eh eb h, t) refl }

  pub stays_int : {z : Bool} → b ≡ false → ReadsM (Domains ds) s z (λ M. is_int M v) → z ≡ true → ReadsF (Domains ds) s f false (λ M w. stays_at M v w)
  stays_int t a e = record { reads = λ M n o k w p c h i. rw (fixed_is v el eh eb h, t, a.reads M p c, e) refl }

  pub stays_real : {z : Bool} → b ≡ false → ReadsM (Domains ds) s z (λ M. is_int M v) → z ≡ false → ReadsF (Domains ds) s f true (λ M w. stays_at M v w)
  stays_real t a e = record { reads = λ M n o k w p c h i. rw (fixed_is v el eh eb h, t, a.reads M p c, e) refl }

  pub stays_not : (z : Bool) → b ≡ false → ReadsM (Domains ds) s z (λ M. is_int M v) → ReadsF (Domains ds) s f (not z) (λ M w. stays_at M v w)
  stays_not true t a = stays_int t a refl
  stays_not false t a = stays_real t a refl

-- ---- falls, rises: a flag is 1 or not
module _ (x : Float) {b d : ℕ} {lo l : Float} {z : Bool} where
  pub falls_as : z ≡ falls_at x (eqb b 1) lo → b ≡ d → lo ≡ l → z ≡ falls_at x (is_one d) l
  unfolding is_one
  falls_as e eb el = e ∙ ap (λ (y : ℕ). falls_at x (eqb y 1) lo) eb ∙ ap (falls_at x (eqb d 1)) el

  pub rises_as : z ≡ rises_at x (eqb b 1) lo → b ≡ d → lo ≡ l → z ≡ rises_at x (is_one d) l
  unfolding is_one
  rises_as e eb el = e ∙ ap (λ (y : ℕ). rises_at x (eqb y 1) lo) eb ∙ ap (rises_at x (eqb d 1)) el

-- ---- dual_var, by its tests
module _ (M : Model) (dec inc : List Bool) (v : ℕ) (w : Work) (changed : Bool) where
  var_left : stays_at M v w ≡ true → dual_var M dec inc v w changed ≡ (w, changed)
  unfolding dual_var
  var_left e = yes _ _ e

  module _ (e : stays_at M v w ≡ false) where
    var_down : may_fall M dec v w ≡ true → dual_var M dec inc v w changed ≡ (fix M v (at w.wlo v) w, true)
    unfolding dual_var
    var_down g = no _ _ e ∙ yes _ _ g

    var_up : may_fall M dec v w ≡ false → may_rise M inc v w ≡ true → dual_var M dec inc v w changed ≡ (fix M v (at w.whi v) w, true)
    unfolding dual_var
    var_up g u = no _ _ e ∙ no _ _ g ∙ yes _ _ u

    var_same : may_fall M dec v w ≡ false → may_rise M inc v w ≡ false → dual_var M dec inc v w changed ≡ (w, changed)
    unfolding dual_var
    var_same g u = no _ _ e ∙ no _ _ g ∙ no _ _ u

-- a change before is one after
abbrev chosen : Bool → Bool → Bool → Bool → Work → Work → Work → Work × Bool
chosen ch a b c x y z = choose a (x, ch) (choose b (y, true) (choose c (z, true) (x, ch)))

before : (ch a b c : Bool) (x y z : Work) → ◌≡◌ {A = Work × Bool} (chosen ch a b c x y z) ((chosen false a b c x y z).0, ch || (chosen false a b c x y z).1)
unfolding choose
before true true b c x y z = refl
before true false true c x y z = refl
before true false false true x y z = refl
before true false false false x y z = refl
before false true b c x y z = refl
before false false true c x y z = refl
before false false false true x y z = refl
before false false false false x y z = refl

var_before : (M : Model) (dec inc : List Bool) (v : ℕ) (w : Work) (changed : Bool)
    → ◌≡◌ {A = Work × Bool} (dual_var M dec inc v w changed) ((dual_var M dec inc v w false).0, changed || (dual_var M dec inc v w false).1)
unfolding dual_var
var_before M dec inc v w changed = before changed (stays_at M v w) (may_fall M dec v w) (may_rise M inc v w) w _ _

-- what dual_var gives is shown
module _ {P : Model → Type 0} {s : Context} {f f' : Floats} {n n' : Numbers} {z : Bool} (F : Model → Work → Work × Bool) (G : Model → Work → Work) where
  bool_by : ((M : Model) (o : List ℕ) (k : ℕ) (w : Work) → P M → Call M s → Shows M f n o w → Inv M k w → F M w ≡ (G M w, z))
      → ((M : Model) (o : List ℕ) (k : ℕ) (w : Work) → P M → Call M s → Shows M f n o w → Inv M k w → Shows M f' n' o (G M w)) → ActsBool P s f n f' n' z F
  bool_by e a =
      record {
        does = λ M o k w p c h i. subst (λ (y : Work × Bool). Shows M f' n' o y.0) (sym (e M o k w p c h i)) (a M o k w p c h i);
        says = λ M o k w p c h i. ap (λ (y : Work × Bool). y.1) (e M o k w p c h i);
      }

-- by the flags as the numbers have them
abbrev pub by_flags : Numbers → ℕ → Bool → Model → Work → Work × Bool
by_flags n v changed M w = dual_var M (map is_one n.bad_dec) (map is_one n.bad_inc) v w changed

module _ {os : List Float} {lists : Lists} {s : Context} {f : Floats} {n : Numbers} (v : ℕ) (changed : Bool) {a : Bool} (st : ReadsF (Domains lists.domain.now) s f a (λ M w. stays_at M v w)) where
  stays_is : (M : Model) (o : List ℕ) (k : ℕ) (w : Work) → Fixing os lists M → Call M s → Shows M f n o w → Inv M k w → stays_at M v w ≡ a
  stays_is M o k w p c h i = st.reads M n o k w (fixing_domains M p) c h i

  pub var_stays : a ≡ true → ActsBool (Fixing os lists) s f n f n changed (by_flags n v changed)
  var_stays e =
      bool_by (by_flags n v changed) (λ M w. w)
      (λ M o k w p c h i. var_left M (map is_one n.bad_dec) (map is_one n.bad_inc) v w changed (stays_is M o k w p c h i ∙ e))
      (λ M o k w p c h i. h)

  module _ (e : a ≡ false) (p : v < s.vars) (ld : length n.bad_dec ≡ s.vars) {b : Bool} (eb : b ≡ falls_at (get_or os v nan) (is_one (get_or n.bad_dec v 0)) (get_or f.wlo v nan)) where
    falls_is : (M : Model) (o : List ℕ) (w : Work) → Fixing os lists M → Shows M f n o w → may_fall M (map is_one n.bad_dec) v w ≡ b
    falls_is M o w q h =
        let z : get_or (map is_one n.bad_dec) v true ≡ is_one (get_or n.bad_dec v 0) = get_d_map is_one n.bad_dec v 0 true (omega (arith, p, ld)) in
        sym (may_fall_of v w M (map is_one n.bad_dec)) ∙ cc (q.obj, z, h.wlo, eb)

    pub var_falls : {x : Float} {f' : Floats} {n' : Numbers} → b ≡ true → x ≡ get_or f.wlo v nan → Acts (Adj lists.adjacency.now) s f n f' n' (λ M. fix M v x)
        → ActsBool (Fixing os lists) s f n f' n' true (by_flags n v changed)
    var_falls {x} t ex m =
        bool_by (by_flags n v changed) (λ M w. fix M v x w)
        (λ M o k w q c h i.
        var_down M (map is_one n.bad_dec) (map is_one n.bad_inc) v w changed (stays_is M o k w q c h i ∙ e) (falls_is M o w q h ∙ t)
        ∙ ap (λ (y : Float). (fix M v y w, true)) (sym (wlo_is v h ex)))
        (λ M o k w q c h i. m.does M o k w q.adjacency c h i)

    module _ (t : b ≡ false) (li : length n.bad_inc ≡ s.vars) {d : Bool} (ed : d ≡ rises_at (get_or os v nan) (is_one (get_or n.bad_inc v 0)) (get_or f.whi v nan)) where
      rises_is : (M : Model) (o : List ℕ) (w : Work) → Fixing os lists M → Shows M f n o w → may_rise M (map is_one n.bad_inc) v w ≡ d
      rises_is M o w q h =
          let z : get_or (map is_one n.bad_inc) v true ≡ is_one (get_or n.bad_inc v 0) = get_d_map is_one n.bad_inc v 0 true (omega (arith, p, li)) in
          sym (may_rise_of v w M (map is_one n.bad_inc)) ∙ cc (q.obj, z, h.whi, ed)

      pub var_rises : {x : Float} {f' : Floats} {n' : Numbers} → d ≡ true → x ≡ get_or f.whi v nan → Acts (Adj lists.adjacency.now) s f n f' n' (λ M. fix M v x)
          → ActsBool (Fixing os lists) s f n f' n' true (by_flags n v changed)
      var_rises {x} u ex m =
          bool_by (by_flags n v changed) (λ M w. fix M v x w)
          (λ M o k w q c h i.
          var_up M (map is_one n.bad_dec) (map is_one n.bad_inc) v w changed (stays_is M o k w q c h i ∙ e) (falls_is M o w q h ∙ t) (rises_is M o w q h ∙ u)
          ∙ ap (λ (y : Float). (fix M v y w, true)) (sym (whi_is v h ex)))
          (λ M o k w q c h i. m.does M o k w q.adjacency c h i)

      pub var_rests : d ≡ false → ActsBool (Fixing os lists) s f n f n changed (by_flags n v changed)
      var_rests u =
          bool_by (by_flags n v changed) (λ M w. w)
          (λ M o k w q c h i. var_same M (map is_one n.bad_dec) (map is_one n.bad_inc) v w changed (stays_is M o k w q c h i ∙ e) (falls_is M o w q h ∙ t) (rises_is M o w q h ∙ u))
          (λ M o k w q c h i. h)

-- ---- it keeps the invariant
module _ {M : Model} {k : ℕ} where
  inv_var : (dec inc : List Bool) (v : ℕ) (w : Work) (changed : Bool) → Inv M k w → Inv M k (dual_var M dec inc v w changed).0
  unfolding dual_var
  inv_var dec inc v w changed i =
      either (λ (y : Work × Bool). Inv M k y.0) _ (λ e. i)
      (λ e. either (λ (y : Work × Bool). Inv M k y.0) _ (λ e'. inv_fix v w i _) (λ e'. either (λ (y : Work × Bool). Inv M k y.0) _ (λ e''. inv_fix v w i _) (λ e''. i)))

  inv_from : (j : ℕ) (dec inc : List Bool) (v : ℕ) (w : Work) (changed : Bool) → Inv M k w → Inv M k (dual_from M j dec inc v w changed).0
  unfolding dual_from
  inv_from zero dec inc v w changed i = i
  inv_from (suc j) dec inc v w changed i = inv_from j dec inc (suc v) _ _ (inv_var dec inc v w changed i)

  inv_dual : (w : Work) → Inv M k w → Inv M k (dual_fix M w).0
  unfolding dual_fix
  inv_dual w i = inv_from (length M.lower) _ _ 0 w false i

pub var_keeps : {P : Model → Type 0} {s : Context} (dec inc : List Bool) (v : ℕ) (changed : Bool) → KeepsBool P s (λ M w. dual_var M dec inc v w changed)
var_keeps dec inc v changed = record { keeps = λ M k w p c i. inv_var dec inc v w changed i }

pub dual_keeps : {P : Model → Type 0} {s : Context} → KeepsBool P s (λ M. dual_fix M)
dual_keeps = record { keeps = λ M k w p c i. inv_dual w i }

-- ---- dual_vars: what is left from v on gives the whole
pub record FlagsLeft (M : Model) (s : Context) (f : Floats) (n : Numbers) (o : List ℕ) (k : ℕ) (dec inc : List Bool) (v : ℕ) (changed : Bool) (whole : Work × Bool) : Type 0 where
  pub work : Work
  pub shows : Shows M f n o work
  pub inv : Inv M k work
  pub rest : dual_from M (s.vars - v) dec inc v work changed ≡ whole

pub record Vars (os : List Float) (lists : Lists) (s : Context) (v : ℕ) (changed : Bool) (f₀ : Floats) (n₀ : Numbers) (f : Floats) (n : Numbers) : Type 0 where
  pub upto : v ≤ s.vars
  pub ready : Ready (Fixing os lists) s f n
  pub kept : FlagsKept n₀ n
  pub left : (M : Model) (o : List ℕ) (k : ℕ) (w : Work) → Fixing os lists M → Call M s → Shows M f₀ n₀ o w → Inv M k w
      → FlagsLeft M s f n o k (map is_one n₀.bad_dec) (map is_one n₀.bad_inc) v changed (dual_from M s.vars (map is_one n₀.bad_dec) (map is_one n₀.bad_inc) 0 w false)

from_next : (M : Model) (j i : ℕ) (dec inc : List Bool) (v u : ℕ) (w : Work) (changed : Bool) → i ≡ suc j → u ≡ suc v
    → dual_from M j dec inc u (dual_var M dec inc v w changed).0 (dual_var M dec inc v w changed).1 ≡ dual_from M i dec inc v w changed
unfolding dual_from
from_next M j i dec inc v u w changed e g = rw (e, g) refl

from_done : (M : Model) (j : ℕ) (dec inc : List Bool) (v : ℕ) (w : Work) (changed : Bool) → j ≡ 0 → dual_from M j dec inc v w changed ≡ (w, changed)
unfolding dual_from
from_done M j dec inc v w changed e = rw e refl

pub vars_start : {os : List Float} {lists : Lists} {s : Context} {f : Floats} {n : Numbers} → Ready (Fixing os lists) s f n → Vars os lists s 0 false f n f n
vars_start {s = s} {n = n} R =
    record {
      upto = omega arith;
      ready = R;
      kept = flags_refl;
      left = λ M o k w p c h i. record {
        work = w;
        shows = h;
        inv = i;
        rest = ap (λ (j : ℕ). dual_from M j (map is_one n.bad_dec) (map is_one n.bad_inc) 0 w false) (let z : s.vars - 0 ≡ s.vars = omega arith in z);
      };
    }

module _ {os : List Float} {lists : Lists} {s : Context} {v : ℕ} {changed : Bool} {f₀ f : Floats} {n₀ n : Numbers} (L : Vars os lists s v changed f₀ n₀ f n) where
  pub vars_turn : {f' : Floats} {n' : Numbers} {z : Bool} → v < s.vars → ActsBool (Fixing os lists) s f n f' n' z
      (λ M w. dual_var M (map is_one n.bad_dec) (map is_one n.bad_inc) v w changed) → FlagsKept n n' → Vars os lists s (v + 1) z f₀ n₀ f' n'
  vars_turn {z = z} p a y =
      let dec = map is_one n₀.bad_dec in
      let inc = map is_one n₀.bad_inc in
      let ed : map is_one n.bad_dec ≡ dec = ap (map is_one) L.kept.dec in
      let ei : map is_one n.bad_inc ≡ inc = ap (map is_one) L.kept.inc in
      let b = rw (ed, ei) at a in
      record {
        upto = omega (arith, p);
        ready = ready_changed L.ready b (var_keeps dec inc v changed);
        kept = kept.flags_then L.kept y;
        left = λ M o k w q c h i.
            let l = L.left M o k w q c h i in
            record {
              work = (dual_var M dec inc v l.work changed).0;
              shows = b.does M o k l.work q c l.shows l.inv;
              inv = inv_var dec inc v l.work changed l.inv;
              rest =
                  ap (dual_from M (s.vars - (v + 1)) dec inc (v + 1) (dual_var M dec inc v l.work changed).0) (sym (b.says M o k l.work q c l.shows l.inv))
                  ∙ from_next M (s.vars - (v + 1)) (s.vars - v) dec inc v (v + 1) l.work changed (omega (arith, p)) (add-one v) ∙ l.rest;
            };
      }

  -- by what v changes of itself
  pub vars_turn_own : {f' : Floats} {n' : Numbers} {z : Bool} → v < s.vars → ActsBool (Fixing os lists) s f n f' n' z
      (λ M w. dual_var M (map is_one n.bad_dec) (map is_one n.bad_inc) v w false) → FlagsKept n n' → Vars os lists s (v + 1) (changed || z) f₀ n₀ f' n'
  vars_turn_own {f'} {n'} {z} p a y =
      let dec = map is_one n.bad_dec in
      let inc = map is_one n.bad_inc in
      vars_turn p
      (record {
        does = λ M o k w q c h i. subst (λ (u : Work × Bool). Shows M f' n' o u.0) (sym (var_before M dec inc v w changed)) (a.does M o k w q c h i);
        says = λ M o k w q c h i. ap (λ (u : Work × Bool). u.1) (var_before M dec inc v w changed) ∙ ap (λ (u : Bool). changed || u) (a.says M o k w q c h i);
      }) y

  pub vars_end : s.vars ≤ v → ActsBool (Fixing os lists) s f₀ n₀ f n changed (λ M w. dual_from M s.vars (map is_one n₀.bad_dec) (map is_one n₀.bad_inc) 0 w false)
  vars_end p =
      record {
        does = λ M o k w q c h i.
            let l = L.left M o k w q c h i in
            subst (λ (y : Work × Bool). Shows M f n o y.0) (sym (ended M l.work) ∙ l.rest) l.shows;
        says = λ M o k w q c h i.
            let l = L.left M o k w q c h i in
            ap (λ (y : Work × Bool). y.1) (sym l.rest ∙ ended M l.work);
      }
    where
      ended : (M : Model) (w : Work) → dual_from M (s.vars - v) (map is_one n₀.bad_dec) (map is_one n₀.bad_inc) v w changed ≡ (w, changed)
      ended M w = from_done M (s.vars - v) (map is_one n₀.bad_dec) (map is_one n₀.bad_inc) v w changed (omega (arith, p))

-- ---- dual_fix
dual_is : (M : Model) (w : Work) → dual_from M (length M.lower) (bad_dec w.rows (none_bad (length M.lower))) (bad_inc w.rows (none_bad (length M.lower))) 0 w false ≡ dual_fix M w
unfolding dual_fix
dual_is M w = refl

pub dual_end : {os : List Float} {lists : Lists} {s : Context} {f f' : Floats} {n n₁ n₂ n' : Numbers} {z : Bool} → Flags n n₁ (λ l. none_bad s.vars)
    (λ l. none_bad s.vars) → Flags n₁ n₂ (each_row (fall_bars lists.rows.starts.now f n₁) s.rows) (each_row (rise_bars lists.rows.starts.now f n₁) s.rows)
    → ActsBool (Fixing os lists) s f n₂ f' n' z (λ M w. dual_from M s.vars (map is_one n₂.bad_dec) (map is_one n₂.bad_inc) 0 w false) → ActsBool (Dual os lists) s f n f' n' z (λ M. dual_fix M)
dual_end {os} {lists} {s} {f} {f'} {n} {n₁} {n₂} {n'} {z} a b t =
    record {
      does = λ M o k w p c h i. subst (λ (y : Work × Bool). Shows M f' n' o y.0) (whole M o k w p c h i) (t.does M o k w (dual_fixing M p) c (shows_flags b (shows_flags a h)) i);
      says = λ M o k w p c h i. ap (λ (y : Work × Bool). y.1) (sym (whole M o k w p c h i)) ∙ t.says M o k w (dual_fixing M p) c (shows_flags b (shows_flags a h)) i;
    }
  where
    whole : (M : Model) (o : List ℕ) (k : ℕ) (w : Work) → Dual os lists M → Call M s → Shows M f n o w → Inv M k w
        → dual_from M s.vars (map is_one n₂.bad_dec) (map is_one n₂.bad_inc) 0 w false ≡ dual_fix M w
    whole M o k w p c h i =
        let g = shows_flags a h in
        let j : s.rows ≡ length w.rows = c.rows ∙ sym i.rowses in
        let d : map is_one n₂.bad_dec ≡ bad_dec w.rows (none_bad s.vars) = flags_dec b ∙ ap (each_row (fall_bars lists.rows.starts.now f n₁) s.rows) (flags_dec a)
        ∙ falls_are g p.starts i.rowses s.rows j (none_bad s.vars) in
        let u : map is_one n₂.bad_inc ≡ bad_inc w.rows (none_bad s.vars) = flags_inc b ∙ ap (each_row (rise_bars lists.rows.starts.now f n₁) s.rows) (flags_inc a)
        ∙ rises_are g p.starts i.rowses s.rows j (none_bad s.vars) in
        rw (d, u, c.vars) (dual_is M w)
