-- FixedUpTo a row's variables one after the other: each one's bounds are still those from before any was fixed, since the row has it once.
use Rattle.std.specs.Prelude.{ℕ, zero, suc, ◌+◌, ◌≤◌, ◌<◌, ◌≡◌, refl, ◌≢◌, Bool, true, List, [], ◌∷◌, ◌++◌, eqb, length, get_or, drop, Float}
use Rattle.std.proofs.Common.{arith, add-one, ap, sym, ◌∙◌, subst, drop_of_length-le, length-append, drop-cons, get_or-set_other, eq-eqb}
use Rattle.std.proofs.Math.ListN.{get_or-append}
use Rattle.std.specs.Float.{nan}
use Rattle.tolerances.specs.Tol.{Term, term, at}
use Rattle.definition.specs.Model.{Model}
use Rattle.definition.specs.Work.{Work, no_term, has_term}
use Rattle.definition.specs.Bounds.{fix}
use Rattle.definition.specs.Forcing.{corner, fix_all}
use Rattle.definition.specs.Choices.{or_true_right}
use Rattle.space.specs.declared.Context.{Context}
use Rattle.space.specs.Store.{Floats, Numbers}
use Rattle.formulas.specs.Forcing.{corner_of, corner_of_lem}
use Rattle.view.specs.Shows.{Shows}
use Rattle.view.specs.Inv.{Inv, Distinct, distinct[], distinct∷}
use Rattle.view.specs.Acts.{Acts, Keeps}
use Rattle.view.specs.Known.{Spans}
use Rattle.view.specs.Bounds.{elo_is, ehi_is}
use Rattle.bounds.specs.Moves.{inv_fix}
use Rattle.readers.specs.Reading.{row_of, Alive}
use Rattle.readers.specs.RowAt.{row_inv}
use Rattle.bounds.specs.Same.{Blind, rows_blind, fix_leaves, fix_elo, fix_ehi}
use Rattle.view.specs.Renamed.{acts_as}
use Rattle.bounds.specs.Loop.{Turning, turning_start, term_still, len_is}

-- ---- fix_term
pub fix_corner : {P : Model → Type 0} {s : Context} {f f' : Floats} {n n' : Numbers} (minCorner : Bool) (v : ℕ) (a : Float) {lo hi x : Float}
    → lo ≡ get_or f.elo v nan → hi ≡ get_or f.ehi v nan → x ≡ corner_of minCorner a lo hi
    → Acts P s f n f' n' (λ M. fix M v x) → Acts P s f n f' n' (λ M w. fix M v (corner minCorner w (term v a)) w)
fix_corner minCorner v a {lo} {hi} {x} e₁ e₂ e₃ t =
    acts_as
    (λ M o k w p c h i.
    let z : corner minCorner w (term v a) ≡ x = sym (corner_of_lem minCorner w (term v a)) ∙ cc (elo_is v h e₁, ehi_is v h e₂, e₃) in
    ap (λ (y : Float). fix M v y w) z)
    t

-- ---- a row's variables are all different
has_at : (ts : List Term) (j : ℕ) → j < length ts → has_term (get_or ts j no_term).var ts ≡ true
unfolding has_term
has_at [] j p = absurd (omega arith)
has_at (t ∷ ts) zero p = rw (eq-eqb t.var t.var refl)
has_at (t ∷ ts) (suc j) p = rw (has_at ts j (omega arith)) (or_true_right (eqb t.var (get_or ts j no_term).var) true refl)

apart : {ts : List Term} → Distinct ts → (i j : ℕ) → i < j → j < length ts → (get_or ts j no_term).var ≢ (get_or ts i no_term).var
apart distinct[] i j p q = absurd (omega arith)
apart (distinct∷ {t} {ts} e d) zero zero p q = absurd (omega arith)
apart (distinct∷ {t} {ts} e d) zero (suc j) p q = λ z. absurd (let b : has_term t.var ts ≡ true = ap (λ (v : ℕ). has_term v ts) (sym z)
    ∙ has_at ts j (omega arith) in let y : ◌≡◌ {A = ℕ} 0 1 = cc (b, e) in omega arith)
apart (distinct∷ {t} {ts} e d) (suc i) zero p q = absurd (omega arith)
apart (distinct∷ {t} {ts} e d) (suc i) (suc j) p q = apart d i j (omega arith) (omega arith)

-- ---- the walk: the terms from i on are left, and their bounds are those of w
pub record FixedUpTo (r : ℕ) (minCorner : Bool) (i : ℕ) (M : Model) (w u : Work) : Type 0 where
  pub rows : u.rows ≡ w.rows
  pub los : (j : ℕ) → i ≤ j → j < length (row_of w r).terms → at u.elo (get_or (row_of w r).terms j no_term).var ≡ at w.elo (get_or (row_of w r).terms j no_term).var
  pub his : (j : ℕ) → i ≤ j → j < length (row_of w r).terms → at u.ehi (get_or (row_of w r).terms j no_term).var ≡ at w.ehi (get_or (row_of w r).terms j no_term).var
  pub rest : fix_all M minCorner w (drop i (row_of w r).terms) u ≡ fix_all M minCorner w (row_of w r).terms w

pub fixing_rows : {r : ℕ} {minCorner : Bool} {i : ℕ} (M : Model) (w u : Work) → FixedUpTo r minCorner i M w u → u.rows ≡ w.rows
fixing_rows M w u k = k.rows

pub fixing_start : {P : Model → Type 0} {s : Context} {f : Floats} {n : Numbers} {r : ℕ} {minCorner : Bool} → Turning P s f n f n (FixedUpTo r minCorner 0)
fixing_start = turning_start (λ M w. record { rows = refl; los = λ j p q. refl; his = λ j p q. refl; rest = refl })

all_cons : (M : Model) (minCorner : Bool) (w : Work) (t : Term) (ts : List Term) (u : Work) → fix_all M minCorner w (t ∷ ts) u ≡ fix_all M minCorner w ts (fix M t.var (corner minCorner w t) u)
unfolding fix_all
all_cons M minCorner w t ts u = refl

all_none : (M : Model) (minCorner : Bool) (w u : Work) → fix_all M minCorner w [] u ≡ u
unfolding fix_all
all_none M minCorner w u = refl

corner_same : (minCorner : Bool) (w u : Work) (v : ℕ) (y : Float) → at u.elo v ≡ at w.elo v → at u.ehi v ≡ at w.ehi v → corner minCorner u (term v y) ≡ corner minCorner w (term v y)
corner_same minCorner w u v y e₁ e₂ = sym (corner_of_lem minCorner u (term v y)) ∙ cc (e₁, e₂) ∙ corner_of_lem minCorner w (term v y)

-- one more is fixed
module _ (M : Model) (r : ℕ) (minCorner : Bool) (i v : ℕ) (y : Float) (w u : Work) (K : FixedUpTo r minCorner i M w u)
    (d : Distinct ((row_of w r).terms ++ (row_of w r).folded)) (m : i < length (row_of w r).terms) (e : get_or (row_of w r).terms i no_term ≡ term v y) where
  abbrev ts : List Term
  ts = (row_of w r).terms

  abbrev x : Float
  x = corner minCorner u (term v y)

  v_is : (get_or ts i no_term).var ≡ v
  v_is = ap (λ (t : Term). t.var) e

  other_var : (j : ℕ) → i + 1 ≤ j → j < length ts → (get_or ts j no_term).var ≢ v
  other_var j p q z =
      let fs = (row_of w r).folded in
      let b = apart d i j (omega arith) (omega (arith, q, length-append ts fs)) in
      b (ap (λ (t : Term). t.var) (get_or-append ts fs no_term j q) ∙ z ∙ sym v_is ∙ ap (λ (t : Term). t.var) (sym (get_or-append ts fs no_term i m)))

  corner_is : x ≡ corner minCorner w (term v y)
  corner_is =
      corner_same minCorner w u v y (subst (λ (q : ℕ). at u.elo q ≡ at w.elo q) v_is (K.los i (omega arith) m))
      (subst (λ (q : ℕ). at u.ehi q ≡ at w.ehi q) v_is (K.his i (omega arith) m))

  fixed_one_lem : FixedUpTo r minCorner (i + 1) M w (fix M v x u)
  fixed_one_lem =
      record {
        rows = fix_leaves rows_blind M v x u ∙ K.rows;
        los = λ j p q. ap (λ (l : List Float). get_or l (get_or ts j no_term).var nan) (fix_elo M v x u) ∙ get_or-set_other u.elo v (get_or ts j no_term).var x nan
            (other_var j p q) ∙ K.los j (omega arith) q;
        his = λ j p q. ap (λ (l : List Float). get_or l (get_or ts j no_term).var nan) (fix_ehi M v x u) ∙ get_or-set_other u.ehi v (get_or ts j no_term).var x nan
            (other_var j p q) ∙ K.his j (omega arith) q;
        rest =
            ap (λ (q : ℕ). fix_all M minCorner w (drop q ts) (fix M v x u)) (add-one i)
            ∙ ap (λ (q : Float). fix_all M minCorner w (drop (suc i) ts) (fix M v q u)) corner_is
            ∙ sym (all_cons M minCorner w (term v y) (drop (suc i) ts) u)
            ∙ ap (λ (l : List Term). fix_all M minCorner w l u) (sym (drop-cons ts i no_term m ∙ ap (λ (t : Term). t ∷ drop (suc i) ts) e))
            ∙ K.rest;
      }

module _ {P : Model → Type 0} {s : Context} {f₀ f : Floats} {n₀ n : Numbers} {ss : List ℕ} {r : ℕ} {minCorner : Bool} {i : ℕ} (q : (M : Model) → P M → Spans ss M)
    (p : r < s.rows) (a : Alive n₀ r) (T : Turning P s f₀ n₀ f n (FixedUpTo r minCorner i)) where
  pub fixing_turn : {f' : Floats} {n' : Numbers} {l v : ℕ} {y : Float} → l ≡ get_or n₀.len r 0 → i < l → v ≡ get_or n.vars (get_or ss r 0 + i) 0 → y ≡ get_or f.coeffs (get_or ss r 0 + i) nan
      → Acts P s f n f' n' (λ M u. fix M v (corner minCorner u (term v y)) u) → Turning P s f₀ n₀ f' n' (FixedUpTo r minCorner (i + 1))
  fixing_turn {v = v} {y} el il ev ey t =
      record {
        each = λ M o k w b c h j.
            let N = T.each M o k w b c h j in
            let u = N.work in
            let m : i < length (row_of w r).terms = omega (arith, il, el, len_is fixing_rows q p a T b c h j) in
            let e = term_still fixing_rows q p a T b c h j m ev ey in
            record {
              work = fix M v (corner minCorner u (term v y)) u;
              shows = t.does M o k u b c N.shows N.inv;
              inv = inv_fix v u N.inv (corner minCorner u (term v y));
              holds = fixed_one_lem M r minCorner i v y w u N.holds (row_inv c h p a j).distinct m e;
            };
      }

  pub fixing_end : {l : ℕ} → l ≡ get_or n₀.len r 0 → l ≤ i → Acts P s f₀ n₀ f n (λ M w. fix_all M minCorner w (row_of w r).terms w)
  fixing_end el il =
      record {
        does = λ M o k w b c h j.
            let N = T.each M o k w b c h j in
            let ts = (row_of w r).terms in
            let e : drop i ts ≡ [] = drop_of_length-le ts {i = i} (omega (arith, il, el, len_is fixing_rows q p a T b c h j)) in
            subst (λ (u : Work). Shows M f n o u) (sym (all_none M minCorner w N.work) ∙ ap (λ (l : List Term). fix_all M minCorner w l N.work) (sym e) ∙ N.holds.rest) N.shows;
      }

-- ---- it keeps the invariant, and changes no row
pub inv_fix_all : {M : Model} {k : ℕ} (minCorner : Bool) (w : Work) (ts : List Term) (u : Work) → Inv M k u → Inv M k (fix_all M minCorner w ts u)
unfolding fix_all
inv_fix_all minCorner w [] u i = i
inv_fix_all {M} minCorner w (t ∷ ts) u i = inv_fix_all minCorner w ts (fix M t.var (corner minCorner w t) u) (inv_fix t.var u i (corner minCorner w t))

pub fix_all_keeps : {P : Model → Type 0} {s : Context} (minCorner : Bool) (r : ℕ) → Keeps P s (λ M w. fix_all M minCorner w (row_of w r).terms w)
fix_all_keeps minCorner r = record { keeps = λ M k w p c i. inv_fix_all minCorner w (row_of w r).terms w i }

pub fix_all_leaves : {A : Type 0} {g : Work → A} → Blind g → (M : Model) (minCorner : Bool) (w : Work) (ts : List Term) (u : Work) → g (fix_all M minCorner w ts u) ≡ g u
unfolding fix_all
fix_all_leaves b M minCorner w [] u = refl
fix_all_leaves b M minCorner w (t ∷ ts) u = fix_all_leaves b M minCorner w ts (fix M t.var (corner minCorner w t) u) ∙ fix_leaves b M t.var (corner minCorner w t) u
