-- The rows of a wave, one after the other: what is left from the row looked at on gives the whole.
use Rattle.std.specs.Prelude.{ℕ, suc, ◌+◌, ◌-◌, ◌≤◌, ◌<◌, ◌≡◌, refl, List, [], ◌∷◌, length, get_or, take, drop, Ok, Err}
use Rattle.std.proofs.Common.{arith, add-one, ap, sym, ◌∙◌, subst, drop_of_length-le, drop-cons, get_or-take, length-take-le}
use Rattle.definition.specs.declared.Infeasible.{Infeasible}
use Rattle.definition.specs.Model.{Model}
use Rattle.definition.specs.Work.{Work, Step, next, ◌>>=◌}
use Rattle.definition.specs.Wave.{wave_row, wave_rows}
use Rattle.space.specs.declared.Context.{Context}
use Rattle.space.specs.Store.{Floats, Numbers}
use Rattle.view.specs.Call.{Call}
use Rattle.view.specs.Shows.{Shows, StepShown, Outcome}
use Rattle.view.specs.Inv.{Inv, Below}
use Rattle.view.specs.Acts.{Ready}
use Rattle.view.specs.Steps.{InvStep, goes, went_is}
use Rattle.view.specs.Bounds.{went_by}
use Rattle.view.specs.Renamed.{stopped_then, inv_next, inv_then}
use Rattle.bounds.specs.Same.{passes_of, Leaves, same, same_then}
use Rattle.bounds.specs.Loop.{Onward}
use Rattle.wave.specs.Row.{ReadyRow, TriesRow, inv_wave_row, passes_row}

-- what the loop asks: the first cnt rows of the wave's block are rows, and still to come
pub record ReadyWave (P : Model → Type 0) (s : Context) (f : Floats) (n : Numbers) (cnt : ℕ) : Type 0 where
  pub ready : Ready P s f n
  pub left : cnt ≤ ready.left
  pub below : Below s.rows (take cnt n.wave)
  pub fits : cnt ≤ s.rows

pub record TriesWave (P : Model → Type 0) (s : Context) (f : Floats) (n : Numbers) (f' : Floats) (n' : Numbers) (z : Outcome) (cnt : ℕ) : Type 0 where
  pub does : (M : Model) (o : List ℕ) (k : ℕ) (w : Work) → P M → Call M s → Shows M f n o w → Inv M (k + cnt) w → StepShown M f' n' o z (wave_rows M (take cnt o) w)

pub wave_is : {P : Model → Type 0} {s : Context} {f f' : Floats} {n n' : Numbers} {z y : Outcome} {cnt : ℕ} → TriesWave P s f n f' n' z cnt → z ≡ y → TriesWave P s f n f' n' y cnt
wave_is {P} {s} {f} {f'} {n} {n'} {cnt = cnt} t e = subst (λ (x : Outcome). TriesWave P s f n f' n' x cnt) e t

rows_cons : (M : Model) (r : ℕ) (rs : List ℕ) (w : Work) → wave_rows M (r ∷ rs) w ≡ (wave_row M r w >>= λ w1. wave_rows M rs w1)
unfolding wave_rows
rows_cons M r rs w = refl

rows_none : (M : Model) (w : Work) → wave_rows M [] w ≡ next w
unfolding wave_rows
rows_none M w = refl

-- ---- the invariant is kept, with fewer rows to come after each
pub inv_rows : {M : Model} {s : Context} {k : ℕ} (rs : List ℕ) (w : Work) → Call M s → Below s.rows rs → Inv M (k + length rs) w → InvStep M k (wave_rows M rs w)
unfolding wave_rows
inv_rows {M} {s} {k} [] w c b i = goes (subst (λ (j : ℕ). Inv M j w) (omega arith) i)
inv_rows {M} {s} {k} (r ∷ rs) w c b i =
    inv_then (λ w1. wave_rows M rs w1)
    (inv_wave_row {k = k + length rs} r w c (b.below 0 (omega arith)) (subst (λ (j : ℕ). Inv M j w) (omega arith) i))
    (λ u j. inv_rows rs u c (record { below = λ q p. b.below (suc q) (omega arith) }) j)

pub passes_rows : (M : Model) (rs : List ℕ) (w : Work) → Leaves passes_of w (wave_rows M rs w)
unfolding wave_rows
passes_rows M [] w = same refl
passes_rows M (r ∷ rs) w = same_then (λ w1. wave_rows M rs w1) (passes_row M r w) (λ u. passes_rows M rs u)

-- ---- the rows from i on are left
pub record Passing (P : Model → Type 0) (s : Context) (f₀ : Floats) (n₀ : Numbers) (f : Floats) (n : Numbers) (cnt i : ℕ) : Type 0 where
  pub each : (M : Model) (o : List ℕ) (k : ℕ) (w : Work) → P M → Call M s → Shows M f₀ n₀ o w → Inv M (k + cnt) w
      → Onward M f n o (k + (cnt - i)) (λ u. wave_rows M (drop i (take cnt o)) u ≡ wave_rows M (take cnt o) w)

pub passing_start : {P : Model → Type 0} {s : Context} {f : Floats} {n : Numbers} {cnt : ℕ} → Passing P s f n f n cnt 0
passing_start = record { each = λ M o k w q c h i. record { work = w; shows = h; inv = subst (λ (j : ℕ). Inv M j w) (omega arith) i; holds = refl } }

module _ {P : Model → Type 0} {s : Context} {f₀ f : Floats} {n₀ n : Numbers} {cnt i : ℕ} (R : ReadyWave P s f₀ n₀ cnt) (l : length n₀.wave ≡ s.rows) (T : Passing P s f₀ n₀ f n cnt i) where
  passed_here : Onward R.ready.model f n R.ready.other (R.ready.left - cnt + (cnt - i))
      (λ u. wave_rows R.ready.model (drop i (take cnt R.ready.other)) u ≡ wave_rows R.ready.model (take cnt R.ready.other) R.ready.work)
  passed_here =
      let q = R.ready in
      T.each q.model q.other (q.left - cnt) q.work q.known q.call q.shows (subst (λ (j : ℕ). Inv q.model j q.work) (omega (arith, R.left)) q.inv)

  pub passing_ready : i < cnt → ReadyRow P s f n
  passing_ready il =
      let q = R.ready in
      record {
        ready =
            record {
              model = q.model;
              other = q.other;
              left = q.left - cnt + (cnt - i);
              work = passed_here.work;
              known = q.known;
              call = q.call;
              shows = passed_here.shows;
              inv = passed_here.inv;
            };
        left = omega (arith, il);
      }

  pub passing_row : {r : ℕ} → i < cnt → r ≡ get_or n.wave i 0 → r < s.rows
  passing_row {r} il e =
      let x : n.wave ≡ n₀.wave = passed_here.shows.wave ∙ sym R.ready.shows.wave in
      let b = R.below.below i (omega (arith, il, length-take-le cnt n₀.wave (omega (arith, l, R.fits)))) in
      let y : get_or (take cnt n₀.wave) i 0 ≡ r = get_or-take cnt n₀.wave i 0 il ∙ ap (λ (d : List ℕ). get_or d i 0) (sym x) ∙ sym e in
      omega (arith, b, y)

long_is : {M : Model} {f : Floats} {n : Numbers} {o : List ℕ} {w : Work} {m cnt : ℕ} → length n.wave ≡ m → cnt ≤ m → Shows M f n o w → length (take cnt o) ≡ cnt
long_is {o = o} {cnt = cnt} l lc h = length-take-le cnt o (omega (arith, l, lc, ap length h.wave))

-- what is left, with the row that the code read in front
left_is : {M : Model} {f : Floats} {n : Numbers} {o : List ℕ} {u : Work} {cnt i r : ℕ} → i < cnt → length (take cnt o) ≡ cnt → r ≡ get_or n.wave i 0 → Shows M f n o u
    → wave_rows M (drop i (take cnt o)) u ≡ (wave_row M r u >>= λ w1. wave_rows M (drop (suc i) (take cnt o)) w1)
left_is {M} {o = o} {u} {cnt} {i} {r} il lt er g =
    let rs = take cnt o in
    let e : get_or rs i 0 ≡ r = get_or-take cnt o i 0 il ∙ ap (λ (d : List ℕ). get_or d i 0) (sym g.wave) ∙ sym er in
    ap (λ (d : List ℕ). wave_rows M d u) (drop-cons rs i 0 (omega (arith, il, lt)) ∙ ap (λ (x : ℕ). x ∷ drop (suc i) rs) e) ∙ rows_cons M r (drop (suc i) rs) u

module _ {P : Model → Type 0} {s : Context} {f₀ f : Floats} {n₀ n : Numbers} {cnt i : ℕ} (l : length n₀.wave ≡ s.rows) (lc : cnt ≤ s.rows) (T : Passing P s f₀ n₀ f n cnt i) where
  module _ {f' : Floats} {n' : Numbers} {r : ℕ} (p : r < s.rows) (il : i < cnt) (er : r ≡ get_or n.wave i 0) where
    pub passing_turn : TriesRow P s f n f' n' (Ok tt) (λ M. wave_row M r) → Passing P s f₀ n₀ f' n' cnt (i + 1)
    passing_turn t =
        record {
          each = λ M o k w q c h j.
              let N = T.each M o k w q c h j in
              let u = N.work in
              let b : Inv M (suc (k + (cnt - (i + 1)))) u = subst (λ (x : ℕ). Inv M x u) (omega (arith, il)) N.inv in
              let g = went_is (t.does M o (k + (cnt - (i + 1))) u q c N.shows b) in
              record {
                work = g.work;
                shows = g.shows;
                inv = inv_next (inv_wave_row r u c p b) g.is;
                holds =
                    ap (λ (x : ℕ). wave_rows M (drop x (take cnt o)) g.work) (add-one i)
                    ∙ sym (left_is il (long_is l lc h) er N.shows ∙ ap (λ (z : Step). z >>= λ w1. wave_rows M (drop (suc i) (take cnt o)) w1) g.is)
                    ∙ N.holds;
              };
        }

    pub passing_stop : {e₀ : Infeasible} → TriesRow P s f n f' n' (Err e₀) (λ M. wave_row M r) → TriesWave P s f₀ n₀ f' n' (Err e₀) cnt
    passing_stop {e₀ = e₀} t =
        record {
          does = λ M o k w q c h j.
              let N = T.each M o k w q c h j in
              let u = N.work in
              let b : Inv M (suc (k + (cnt - (i + 1)))) u = subst (λ (x : ℕ). Inv M x u) (omega (arith, il)) N.inv in
              subst (λ (z : Step). StepShown M f' n' o (Err e₀) z) (sym (left_is il (long_is l lc h) er N.shows) ∙ N.holds)
              (stopped_then (λ w1. wave_rows M (drop (suc i) (take cnt o)) w1) (t.does M o (k + (cnt - (i + 1))) u q c N.shows b));
        }

  pub passing_end : cnt ≤ i → TriesWave P s f₀ n₀ f n (Ok tt) cnt
  passing_end il =
      record {
        does = λ M o k w q c h j.
            let N = T.each M o k w q c h j in
            let e : drop i (take cnt o) ≡ [] = drop_of_length-le (take cnt o) {i = i} (omega (arith, il, long_is l lc h)) in
            went_by (sym N.holds ∙ ap (λ (d : List ℕ). wave_rows M d N.work) e ∙ rows_none M N.work) N.shows;
      }
