-- A row by its count of terms.
use Rattle.std.specs.Prelude.{ℕ, ◌<◌, ◌≡◌, length, get_or}
use Rattle.std.proofs.Common.{arith, sym, ◌∙◌}
use Rattle.std.proofs.Math.Path.{refl}
use mathlib.Core.List.{List, [], ◌∷◌}
use Rattle.tolerances.specs.Tol.{Term}
use Rattle.definition.specs.Model.{Model, Row}
use Rattle.definition.specs.Work.{Work, no_term}
use Rattle.definition.specs.Singles.{empty_row_check, singleton_row}
use Rattle.definition.specs.Wave.{several_terms, by_count}
use Rattle.space.specs.declared.Context.{Context}
use Rattle.space.specs.Store.{Floats, Numbers}
use Rattle.view.specs.declared.Lists.{Lists}
use Rattle.view.specs.Call.{Call}
use Rattle.view.specs.Shows.{Shows, Outcome}
use Rattle.view.specs.Inv.{Inv}
use Rattle.view.specs.Acts.{Tries}
use Rattle.view.specs.Steps.{InvStep, tries_under}
use Rattle.view.specs.Known.{Spans, Written, Known, known_spans, known_written}
use Rattle.readers.specs.Reading.{row_of, Alive}
use Rattle.readers.specs.RowAt.{row_at}
use Rattle.readers.specs.Knowing.{BoundingRows, known_moves}
use Rattle.bounds.specs.Same.{passes_of, Leaves}
use Rattle.view.specs.Renamed.{tries_as}
use Rattle.singles.specs.Empty.{inv_empty, passes_empty}
use Rattle.singles.specs.Singleton.{inv_single, passes_single}
use Rattle.wave.specs.Several.{inv_several, passes_several}

module _ (M : Model) (r : ℕ) (row : Row) (w : Work) where
  count_none : (ts : List Term) → length ts ≡ 0 → by_count M r row ts w ≡ empty_row_check M r row w
  unfolding by_count
  count_none [] e = refl
  count_none (t ∷ ts) e = absurd (omega arith)

  count_one : (ts : List Term) → length ts ≡ 1 → by_count M r row ts w ≡ singleton_row M r row (get_or ts 0 no_term) w
  unfolding by_count
  count_one [] e = absurd (omega arith)
  count_one (t ∷ []) e = refl
  count_one (t ∷ u ∷ ts) e = absurd (omega arith)

  count_more : (ts : List Term) → (length ts ≡ 0 → ⊥) → (length ts ≡ 1 → ⊥) → by_count M r row ts w ≡ several_terms M r row w
  unfolding by_count
  count_more [] e d = absurd (e refl)
  count_more (t ∷ []) e d = absurd (d refl)
  count_more (t ∷ u ∷ ts) e d = refl

len_of : {ss : List ℕ} {s : Context} {f : Floats} {n : Numbers} {r l : ℕ} {M : Model} {o : List ℕ} {k : ℕ} {w : Work} → r < s.rows → Alive n r
    → l ≡ get_or n.len r 0 → Spans ss M → Call M s → Shows M f n o w → Inv M k w → l ≡ length (row_of w r).terms
len_of p al el q c h i = el ∙ (row_at c h p al i q).len

module _ {lists : Lists} {s : Context} {f f' : Floats} {n n' : Numbers} {z : Outcome}
    (r : ℕ) {l : ℕ} (p : r < s.rows) (al : Alive n r) (el : l ≡ get_or n.len r 0) where
  pub by_none : l ≡ 0 → Tries (Written lists.rows) s f n f' n' z (λ M w. empty_row_check M r (row_of w r) w) → Tries (Known lists) s f n f' n' z
      (λ M w. by_count M r (row_of w r) (row_of w r).terms w)
  by_none e t =
      tries_as (λ M o k w q c h i. count_none M r (row_of w r) w (row_of w r).terms (sym (len_of p al el (known_spans M q) c h i) ∙ e)) (tries_under known_written t)

  pub by_one : l ≡ 1 → Tries (BoundingRows lists) s f n f' n' z (λ M w. singleton_row M r (row_of w r) (get_or (row_of w r).terms 0 no_term) w)
      → Tries (Known lists) s f n f' n' z (λ M w. by_count M r (row_of w r) (row_of w r).terms w)
  by_one e t = tries_as (λ M o k w q c h i. count_one M r (row_of w r) w (row_of w r).terms (sym (len_of p al el (known_spans M q) c h i) ∙ e)) (tries_under known_moves t)

  pub by_more : (l ≡ 0 → ⊥) → (l ≡ 1 → ⊥) → Tries (BoundingRows lists) s f n f' n' z (λ M w. several_terms M r (row_of w r) w)
      → Tries (Known lists) s f n f' n' z (λ M w. by_count M r (row_of w r) (row_of w r).terms w)
  by_more e d t =
      tries_as
      (λ M o k w q c h i.
      let y = len_of p al el (known_spans M q) c h i in
      count_more M r (row_of w r) w (row_of w r).terms (λ u. e (y ∙ u)) (λ u. d (y ∙ u)))
      (tries_under known_moves t)

-- ---- it keeps the invariant
pub inv_count : {M : Model} {k : ℕ} (r : ℕ) (row : Row) (ts : List Term) (w : Work) → Inv M k w → InvStep M k (by_count M r row ts w)
unfolding by_count
inv_count r row [] w i = inv_empty r row w i
inv_count r row (t ∷ []) w i = inv_single r row t w i
inv_count r row (t ∷ u ∷ ts) w i = inv_several r row w i

pub passes_count : (M : Model) (r : ℕ) (row : Row) (ts : List Term) (w : Work) → Leaves passes_of w (by_count M r row ts w)
unfolding by_count
passes_count M r row [] w = passes_empty M r row w
passes_count M r row (t ∷ []) w = passes_single M r row t w
passes_count M r row (t ∷ u ∷ ts) w = passes_several M r row w
