-- Integer bounds rounded: what `round_var` stores, and the loop of `round_vars`.
use Prim.Native.Nat.{ℕ, zero, suc, ◌+◌, ◌-◌, ◌≤◌, ◌<◌}
use native.Mathlib.Omega.{arith}
use Rattle.std.proofs.Common.{add-one, ◌∙◌, drop_of_length-le, drop-cons, length-take-le, take-suc-set}
use Rattle.std.proofs.Math.Path.{◌≡◌, ap, sym}
use Rattle.std.specs.Prelude.{refl, Bool, true, false, List, [], ◌∷◌, ◌++◌, length, take, drop, Float}
use Rattle.std.proofs.Math.ListN.{set}
use Rattle.std.proofs.Math.Seq.{take_all, append_snoc}
use Rattle.std.proofs.lemmas.List.{set_at, get_or_at, set-get_or}
use Rattle.std.specs.Float.{nan}
use Rattle.floats.specs.Num.{choose, gt}
use Rattle.tolerances.specs.Tol.{at}
use Rattle.definition.specs.declared.Input.{Input}
use Rattle.definition.specs.Model.{Model, is_int}
use Rattle.definition.specs.Begin.{Bounds, cross, bounds, rounded_lower, rounded_upper, round_var, round_from}
use Rattle.space.specs.declared.Context.{Context}
use Rattle.space.specs.Store.{Floats, floats_of, HoldsF, put_wlo, put_whi, put_elo, put_ehi}
use Rattle.space.specs.Blocks.{wlo_length, whi_length, elo_length, ehi_length}
use Rattle.view.specs.Call.{Call}
use Rattle.view.specs.Lists.{yes, no}
use Rattle.readers.specs.Reading.{ReadsM, Domains}

-- what the slices of the call say of the model's bounds
pub record InputBounds (x : Input) (M : Model) : Type 0 where
  pub lower : M.lower ≡ x.lower.now
  pub upper : M.upper ≡ x.upper.now
  pub domain : M.domain ≡ x.domain.now
  pub int_tol : M.int_tol ≡ x.int_tol

-- ---- round_var: v's bounds are l and h, and low and high after
abbrev pub put_bounds : ℕ → Float → Float → Floats → Floats
put_bounds v l h f = put_ehi v h (put_elo v l (put_whi v h (put_wlo v l f)))

pub record VarRounded (ds : List ℕ) (s : Context) (tol : Float) (v : ℕ) (l h : Float) (f f' : Floats) (z : Bool) : Type 0 where
  pub low : Float
  pub high : Float
  pub is : (M : Model) (a b : List Float) → Domains ds M → M.int_tol ≡ tol → Call M s → at a v ≡ l → at b v ≡ h → round_var M v (bounds a b) ≡ choose z (bounds (set a v low) (set b v high)) cross
  pub stored : z ≡ true → f' ≡ put_bounds v low high f

round_int : (M : Model) (v : ℕ) (a b : List Float) (tol l h lo hi : Float) → is_int M v ≡ true → M.int_tol ≡ tol → at a v ≡ l → at b v ≡ h → lo ≡ rounded_lower tol l → hi ≡ rounded_upper tol h
    → round_var M v (bounds a b) ≡ choose (gt lo hi) cross (bounds (set a v lo) (set b v hi))
unfolding round_var
round_int M v a b tol l h lo hi i t ea eb el eh = yes _ _ i ∙ rw (t, ea, eb, ← el, ← eh)

round_real : (M : Model) (v : ℕ) (a b : List Float) → is_int M v ≡ false → round_var M v (bounds a b) ≡ bounds a b
unfolding round_var
round_real M v a b i = no _ _ i

module _ {ds : List ℕ} {s : Context} {tol : Float} {v : ℕ} {l h : Float} {f : Floats} {zi : Bool} (I : ReadsM (Domains ds) s zi (λ M. is_int M v)) where
  pub var_cross : {lo hi : Float} → zi ≡ true → lo ≡ rounded_lower tol l → hi ≡ rounded_upper tol h → gt lo hi ≡ true → VarRounded ds s tol v l h f f false
  unfolding choose
  var_cross {lo} {hi} i el eh t =
      record {
        low = lo;
        high = hi;
        is = λ M a b d it c ea eb. round_int M v a b tol l h lo hi (I.reads M d c ∙ i) it ea eb el eh ∙ yes _ _ t;
        stored = λ e. absurd (let z : ◌≡◌ {A = ℕ} 0 1 = cc in omega arith);
      }

  pub var_int : {lo hi : Float} {f' : Floats} → zi ≡ true → lo ≡ rounded_lower tol l → hi ≡ rounded_upper tol h → gt lo hi ≡ false → f' ≡ put_bounds v lo hi f → VarRounded ds s tol v l h f f' true
  unfolding choose
  var_int {lo} {hi} i el eh t e =
      record {
        low = lo;
        high = hi;
        is = λ M a b d it c ea eb. round_int M v a b tol l h lo hi (I.reads M d c ∙ i) it ea eb el eh ∙ no _ _ t;
        stored = λ _. e;
      }

  pub var_real : {f' : Floats} → zi ≡ false → f' ≡ put_bounds v l h f → VarRounded ds s tol v l h f f' true
  unfolding choose
  var_real i e =
      record {
        low = l;
        high = h;
        is = λ M a b d it c ea eb.
            let x : set a v l ≡ a = rw (← ea) (set-get_or a v nan) in
            let y : set b v h ≡ b = rw (← eb) (set-get_or b v nan) in
            round_real M v a b (I.reads M d c ∙ i) ∙ rw (x, y);
        stored = λ _. e;
      }

-- ---- round_vars: the first v of a, and b from there on
abbrev joined : ℕ → List Float → List Float → List Float
joined v a b = take v a ++ drop v b

joined_at : (v : ℕ) (a b : List Float) → v ≤ length a → v < length b → at (joined v a b) v ≡ at b v
joined_at v a b p q = rw (drop-cons b v nan q) (get_or_at (take v a) (at b v) (drop (suc v) b) nan v (length-take-le v a p))

joined_set : (v : ℕ) (a b : List Float) (x : Float) → v < length a → v < length b → set (joined v a b) v x ≡ joined (suc v) (set a v x) b
joined_set v a b x p q =
    rw (drop-cons b v nan q, take-suc-set a v x p, append_snoc (take v a) x (drop (suc v) b)) (set_at (take v a) (at b v) (drop (suc v) b) x v (length-take-le v a (omega arith)))

joined_all : (v : ℕ) (a b : List Float) → length a ≡ v → length b ≡ v → joined v a b ≡ a
joined_all v a b p q = rw (take_all v a (omega arith), drop_of_length-le b {i = v} (omega arith)) (append_nil a)
  where
    append_nil : (l : List Float) → l ++ [] ≡ l
    append_nil [] = refl
    append_nil (y ∷ l) = ap (λ (t : List Float). y ∷ t) (append_nil l)

round_cross : (M : Model) (n v : ℕ) → round_from M n v cross ≡ cross
unfolding round_from round_var
round_cross M zero v = refl
round_cross M (suc n) v = round_cross M n (suc v)

round_one : (M : Model) (n v : ℕ) (b : Bounds) → v < n → round_from M (n - v) v b ≡ round_from M (n - suc v) (suc v) (round_var M v b)
unfolding round_from
round_one M n v b p = let e : n - v ≡ suc (n - suc v) = omega arith in rw e

pub record RoundInv (x : Input) (s : Context) (v : ℕ) (f : Floats) : Type 0 where
  pub lows : take v f.elo ≡ take v f.wlo
  pub highs : take v f.ehi ≡ take v f.whi
  pub rest : (M : Model) → InputBounds x M → Call M s
      → round_from M (s.vars - v) v (bounds (joined v f.wlo x.lower.now) (joined v f.whi x.upper.now)) ≡ round_from M s.vars 0 (bounds x.lower.now x.upper.now)

-- all variables: false where some integer bounds cross, else the four blocks are the definition's bounds
pub record BoundsRounded (x : Input) (s : Context) (f : Floats) (z : Bool) : Type 0 where
  pub is : (M : Model) → InputBounds x M → Call M s → round_from M (length M.lower) 0 (bounds M.lower M.upper) ≡ choose z (bounds f.wlo f.whi) cross
  pub elo : z ≡ true → f.elo ≡ f.wlo
  pub ehi : z ≡ true → f.ehi ≡ f.whi

pub record FourLong (s : Context) (f : Floats) : Type 0 where
  pub wlo : length f.wlo ≡ s.vars
  pub whi : length f.whi ≡ s.vars
  pub elo : length f.elo ≡ s.vars
  pub ehi : length f.ehi ≡ s.vars

whole : {x : Input} {s : Context} (M : Model) → InputBounds x M → Call M s
    → round_from M (length M.lower) 0 (bounds M.lower M.upper) ≡ round_from M s.vars 0 (bounds x.lower.now x.upper.now)
whole M k c = rw (← c.vars, k.lower, k.upper)

pub round_start : {x : Input} {s : Context} {f : Floats} → RoundInv x s 0 f
round_start {s = s} = let z : s.vars - 0 ≡ s.vars = omega arith in record { lows = refl; highs = refl; rest = λ M k c. rw z }

module _ {x : Input} {s : Context} {v : ℕ} {f : Floats} (i : RoundInv x s v f) (b : FourLong s f) (el : length x.lower.now ≡ s.vars) (eh : length x.upper.now ≡ s.vars) where
  abbrev ls : List Float
  ls = x.lower.now

  abbrev hs : List Float
  hs = x.upper.now

  turn_is : {f' : Floats} {z : Bool} → v < s.vars → (g : VarRounded x.domain.now s x.int_tol v (at ls v) (at hs v) f f' z) (M : Model) → InputBounds x M → Call M s
      → round_from M s.vars 0 (bounds ls hs) ≡ round_from M (s.vars - suc v) (suc v) (choose z (bounds (set (joined v f.wlo ls) v g.low) (set (joined v f.whi hs) v g.high)) cross)
  turn_is p g M k c =
      sym (i.rest M k c) ∙ round_one M s.vars v _ p
      ∙ ap (round_from M (s.vars - suc v) (suc v))
      (g.is M (joined v f.wlo ls) (joined v f.whi hs) (record { domain = k.domain }) k.int_tol c
      (joined_at v f.wlo ls (omega (arith, p, b.wlo)) (omega (arith, p, el)))
      (joined_at v f.whi hs (omega (arith, p, b.whi)) (omega (arith, p, eh))))

  pub round_stop : {f' f'' : Floats} {z : Bool} → v < s.vars → VarRounded x.domain.now s x.int_tol v (at ls v) (at hs v) f f' z → z ≡ false → BoundsRounded x s f'' false
  unfolding choose
  round_stop p g e =
      record {
        is = λ M k c. whole M k c ∙ turn_is p g M k c ∙ ap (round_from M (s.vars - suc v) (suc v)) (no _ _ e) ∙ round_cross M (s.vars - suc v) (suc v);
        elo = λ t. absurd (let z : ◌≡◌ {A = ℕ} 0 1 = cc in omega arith);
        ehi = λ t. absurd (let z : ◌≡◌ {A = ℕ} 0 1 = cc in omega arith);
      }

  pub round_turn : {f' : Floats} {z : Bool} → v < s.vars → VarRounded x.domain.now s x.int_tol v (at ls v) (at hs v) f f' z → z ≡ true → RoundInv x s (v + 1) f'
  round_turn {f'} p g e =
      let y : f' ≡ put_bounds v g.low g.high f = g.stored e in
      let vw : v < length f.wlo = omega (arith, p, b.wlo) in
      let vh : v < length f.whi = omega (arith, p, b.whi) in
      let vl : v < length f.elo = omega (arith, p, b.elo) in
      let ve : v < length f.ehi = omega (arith, p, b.ehi) in
      let ql : v < length ls = omega (arith, p, el) in
      let qh : v < length hs = omega (arith, p, eh) in
      rw (y, add-one)
      (record {
        lows = take-suc-set f.elo v g.low vl ∙ ap (λ (t : List Float). t ++ (g.low ∷ [])) i.lows ∙ sym (take-suc-set f.wlo v g.low vw);
        highs = take-suc-set f.ehi v g.high ve ∙ ap (λ (t : List Float). t ++ (g.high ∷ [])) i.highs ∙ sym (take-suc-set f.whi v g.high vh);
        rest = λ M k c.
            sym (turn_is p g M k c ∙ ap (round_from M (s.vars - suc v) (suc v)) (yes _ _ e ∙ rw (joined_set v f.wlo ls g.low vw ql, joined_set v f.whi hs g.high vh qh)));
      })

  pub round_end : v ≡ s.vars → BoundsRounded x s f true
  unfolding choose round_from
  round_end q =
      let z : s.vars - s.vars ≡ 0 = omega arith in
      record {
        is = λ M k c. whole M k c ∙ sym (i.rest M k c) ∙ rw (q, z, joined_all s.vars f.wlo ls b.wlo el, joined_all s.vars f.whi hs b.whi eh);
        elo = λ t. sym (take_all v f.elo (omega (arith, q, b.elo))) ∙ i.lows ∙ take_all v f.wlo (omega (arith, q, b.wlo));
        ehi = λ t. sym (take_all v f.ehi (omega (arith, q, b.ehi))) ∙ i.highs ∙ take_all v f.whi (omega (arith, q, b.whi));
      }

pub four_long : {s : Context} (l : List Float) → HoldsF s l → FourLong s (floats_of s l)
four_long {s} l h = record { wlo = wlo_length s l h; whi = whi_length s l h; elo = elo_length s l h; ehi = ehi_length s l h }
