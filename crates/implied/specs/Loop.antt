-- Implied bounds of a row's terms, one after the other: what is left from the term looked at on gives the whole.
use Rattle.std.specs.Prelude.{ℕ, suc, ◌+◌, ◌≤◌, ◌<◌, ◌≡◌, refl, List, [], ◌∷◌, length, get_or, drop, Float, Ok, Err}
use Rattle.std.proofs.Common.{arith, add-one, ap, sym, ◌∙◌, subst, drop_of_length-le, drop-cons}
use Rattle.std.specs.Float.{nan}
use Rattle.tolerances.specs.Tol.{Term, term}
use Rattle.definition.specs.declared.Activity.{Activity}
use Rattle.definition.specs.declared.Infeasible.{Infeasible}
use Rattle.definition.specs.Model.{Model, Row}
use Rattle.definition.specs.Work.{Work, Step, next, ◌>>=◌, no_term}
use Rattle.definition.specs.Implied.{implied_term, implied_bounds}
use Rattle.space.specs.declared.Context.{Context}
use Rattle.space.specs.Store.{Floats, Numbers}
use Rattle.formulas.specs.declared.Limits.{Limits}
use Rattle.formulas.specs.Bare.{bare, Has}
use Rattle.view.specs.Shows.{StepShown}
use Rattle.view.specs.Inv.{Inv}
use Rattle.view.specs.Acts.{Tries}
use Rattle.view.specs.Steps.{InvStep, goes, went_is}
use Rattle.view.specs.Known.{Spans}
use Rattle.view.specs.Bounds.{went_by}
use Rattle.readers.specs.Reading.{row_of, Alive}
use Rattle.readers.specs.Limits.{ReadsLimits}
use Rattle.bounds.specs.Same.{Blind, rows_blind, Leaves, same, same_next, same_then}
use Rattle.view.specs.Renamed.{stopped_then, inv_next, inv_then}
use Rattle.bounds.specs.Loop.{Turning, turning_start, term_still, len_is}
use Rattle.implied.specs.Sides.{term_has, inv_term, leaves_term}

bounds_cons : (M : Model) (r : ℕ) (row : Row) (act : Activity) (t : Term) (ts : List Term) (w : Work) → implied_bounds M r row act (t ∷ ts) w
    ≡ (implied_term M r row act t w >>= λ w1. implied_bounds M r row act ts w1)
unfolding implied_bounds
bounds_cons M r row act t ts w = refl

bounds_none : (M : Model) (r : ℕ) (row : Row) (act : Activity) (w : Work) → implied_bounds M r row act [] w ≡ next w
unfolding implied_bounds
bounds_none M r row act w = refl

-- ---- the invariant is kept
pub inv_bounds : {M : Model} {k : ℕ} (r : ℕ) (row : Row) (act : Activity) (ts : List Term) (w : Work) → Inv M k w → InvStep M k (implied_bounds M r row act ts w)
unfolding implied_bounds
inv_bounds r row act [] w i = goes i
inv_bounds {M} r row act (t ∷ ts) w i = inv_then (λ w1. implied_bounds M r row act ts w1) (inv_term r row act t w i) (λ u j. inv_bounds r row act ts u j)

-- ---- the rows and the count of waves are left
pub leaves_bounds : {A : Type 0} {g : Work → A} → Blind g → (M : Model) (r : ℕ) (row : Row) (act : Activity) (ts : List Term) (w : Work) → Leaves g w (implied_bounds M r row act ts w)
unfolding implied_bounds
leaves_bounds b M r row act [] w = same refl
leaves_bounds b M r row act (t ∷ ts) w = same_then (λ w1. implied_bounds M r row act ts w1) (leaves_term b M r row act t w) (λ u. leaves_bounds b M r row act ts u)

-- ---- the walk: the terms from i on are left
pub record Implying (r : ℕ) (act : Activity) (i : ℕ) (M : Model) (w u : Work) : Type 0 where
  pub rows : u.rows ≡ w.rows
  pub rest : implied_bounds M r (row_of w r) act (drop i (row_of w r).terms) u ≡ implied_bounds M r (row_of w r) act (row_of w r).terms w

pub implying_rows : {r : ℕ} {act : Activity} {i : ℕ} (M : Model) (w u : Work) → Implying r act i M w u → u.rows ≡ w.rows
implying_rows M w u k = k.rows

pub implying_start : {P : Model → Type 0} {s : Context} {f : Floats} {n : Numbers} {r : ℕ} {act : Activity} → Turning P s f n f n (Implying r act 0)
implying_start = turning_start (λ M w. record { rows = refl; rest = refl })

-- the terms that are left, as the code has the first of them
left_is : {x : Limits} (M : Model) (r : ℕ) (row : Row) (act : Activity) (i : ℕ) (t : Term) (u : Work) → Has x row → i < length row.terms → get_or row.terms i no_term ≡ t
    → implied_bounds M r row act (drop i row.terms) u ≡ (implied_term M r (bare x) act t u >>= λ w1. implied_bounds M r row act (drop (suc i) row.terms) w1)
left_is M r row act i t u hx m e =
    ap (λ (ts : List Term). implied_bounds M r row act ts u) (drop-cons row.terms i no_term m ∙ ap (λ (d : Term). d ∷ drop (suc i) row.terms) e)
    ∙ bounds_cons M r row act t (drop (suc i) row.terms) u
    ∙ ap (λ (z : Step). z >>= λ w1. implied_bounds M r row act (drop (suc i) row.terms) w1) (sym (term_has M r hx act t u))

module _ {P : Model → Type 0} {s : Context} {f₀ f : Floats} {n₀ n : Numbers} {ss : List ℕ} {r : ℕ} {act : Activity} {i : ℕ} (q : (M : Model) → P M → Spans ss M)
    (p : r < s.rows) (a : Alive n₀ r) (T : Turning P s f₀ n₀ f n (Implying r act i)) where
  module _ {f' : Floats} {n' : Numbers} {x : Limits} {l v terms : ℕ} {y : Float} (lim : ReadsLimits s f₀ r terms x) (el : l ≡ get_or n₀.len r 0) (il : i < l)
      (ev : v ≡ get_or n.vars (get_or ss r 0 + i) 0) (ey : y ≡ get_or f.coeffs (get_or ss r 0 + i) nan) where
    pub implying_turn : Tries P s f n f' n' (Ok tt) (λ M. implied_term M r (bare x) act (term v y)) → Turning P s f₀ n₀ f' n' (Implying r act (i + 1))
    implying_turn t =
        record {
          each = λ M o k w b c h j.
              let N = T.each M o k w b c h j in
              let g = went_is (t.does M o k N.work b c N.shows N.inv) in
              let row = row_of w r in
              let m : i < length row.terms = omega (arith, il, el, len_is implying_rows q p a T b c h j) in
              let e = term_still implying_rows q p a T b c h j m ev ey in
              record {
                work = g.work;
                shows = g.shows;
                inv = inv_next (inv_term r (bare x) act (term v y) N.work N.inv) g.is;
                holds =
                    record {
                      rows = same_next (leaves_term rows_blind M r (bare x) act (term v y) N.work) g.is ∙ N.holds.rows;
                      rest =
                          ap (λ (d : ℕ). implied_bounds M r row act (drop d row.terms) g.work) (add-one i)
                          ∙ sym (left_is M r row act i (term v y) N.work (lim.has M n₀ o w c h a) m e ∙ ap
                          (λ (z : Step). z >>= λ w1. implied_bounds M r row act (drop (suc i) row.terms) w1) g.is)
                          ∙ N.holds.rest;
                    };
              };
        }

    pub implying_stop : {fail : Infeasible} → Tries P s f n f' n' (Err fail) (λ M. implied_term M r (bare x) act (term v y))
        → Tries P s f₀ n₀ f' n' (Err fail) (λ M w. implied_bounds M r (row_of w r) act (row_of w r).terms w)
    implying_stop {fail = fail} t =
        record {
          does = λ M o k w b c h j.
              let N = T.each M o k w b c h j in
              let row = row_of w r in
              let m : i < length row.terms = omega (arith, il, el, len_is implying_rows q p a T b c h j) in
              let e = term_still implying_rows q p a T b c h j m ev ey in
              subst (λ (z : Step). StepShown M f' n' o (Err fail) z) (sym (left_is M r row act i (term v y) N.work (lim.has M n₀ o w c h a) m e) ∙ N.holds.rest)
              (stopped_then (λ w1. implied_bounds M r row act (drop (suc i) row.terms) w1) (t.does M o k N.work b c N.shows N.inv));
        }

  pub implying_end : {l : ℕ} → l ≡ get_or n₀.len r 0 → l ≤ i → Tries P s f₀ n₀ f n (Ok tt) (λ M w. implied_bounds M r (row_of w r) act (row_of w r).terms w)
  implying_end el il =
      record {
        does = λ M o k w b c h j.
            let N = T.each M o k w b c h j in
            let row = row_of w r in
            let e : drop i row.terms ≡ [] = drop_of_length-le row.terms {i = i} (omega (arith, il, el, len_is implying_rows q p a T b c h j)) in
            went_by (sym N.holds.rest ∙ ap (λ (ts : List Term). implied_bounds M r row act ts N.work) e ∙ bounds_none M r row act N.work) N.shows;
      }
