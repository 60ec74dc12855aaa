-- One row changed twice: what is done to it first has to keep the invariant only of states that the slices show.
use Rattle.std.specs.Prelude.{ℕ, ◌<◌, ◌≡◌, true, List}
use Rattle.std.proofs.Common.{arith, ap, sym, ◌∙◌, subst, set-set}
use Rattle.definition.specs.Model.{Model, Row}
use Rattle.definition.specs.Work.{Work, with_row, with_rows}
use Rattle.space.specs.declared.Context.{Context}
use Rattle.space.specs.Store.{Floats, Numbers}
use Rattle.view.specs.Call.{Call}
use Rattle.view.specs.Shows.{Shows, parts_of, RowShown}
use Rattle.view.specs.Inv.{RowInv, Inv}
use Rattle.view.specs.Acts.{Ready, Acts, Reads}
use Rattle.view.specs.Rows.{row_now, inv_row}
use Rattle.readers.specs.Reading.{row_of, Alive}
use Rattle.readers.specs.RowAt.{alive_of, row_shown}

-- row r become F of the state, where it is alive and has its invariant
pub record StaysAlive (P : Model → Type 0) (s : Context) (f : Floats) (n : Numbers) (r : ℕ) (F : Model → Work → Row) : Type 0 where
  pub alive : (M : Model) (o : List ℕ) (k : ℕ) (w : Work) → P M → Call M s → Shows M f n o w → Inv M k w → (F M w).alive ≡ true
  pub inv : (M : Model) (o : List ℕ) (k : ℕ) (w : Work) → P M → Call M s → Shows M f n o w → Inv M k w → RowInv M r (F M w)

-- the row that was stored last is the row
pub row_again : (r : ℕ) (x y : Row) (w : Work) → with_row r y (with_row r x w) ≡ with_row r y w
row_again r x y w = ap (λ (l : List Row). with_rows l w) (set-set w.rows r x y)

module _ {P : Model → Type 0} {s : Context} {f f₁ : Floats} {n n₁ : Numbers} {r : ℕ} {F : Model → Work → Row} (p : r < s.rows)
    (A : Acts P s f n f₁ n₁ (λ M w. with_row r (F M w) w)) (S : StaysAlive P s f n r F) where
  row_is : {M : Model} {k : ℕ} (w : Work) → Call M s → Inv M k w → row_of (with_row r (F M w) w) r ≡ F M w
  row_is {M} w c i = row_now r (F M w) w (omega (arith, p, c.rows, i.rowses))

  pub ready_stays : Ready P s f n → Ready P s f₁ n₁
  ready_stays R =
      record {
        model = R.model;
        other = R.other;
        left = R.left;
        work = with_row r (F R.model R.work) R.work;
        known = R.known;
        call = R.call;
        shows = A.does R.model R.other R.left R.work R.known R.call R.shows R.inv;
        inv = inv_row r (F R.model R.work) R.work R.inv (λ _. S.inv R.model R.other R.left R.work R.known R.call R.shows R.inv);
      }

  pub alive_stays : Ready P s f n → Alive n₁ r
  alive_stays R =
      alive_of R.call (A.does R.model R.other R.left R.work R.known R.call R.shows R.inv) p
      (ap (λ (x : Row). x.alive) (row_is R.work R.call R.inv) ∙ S.alive R.model R.other R.left R.work R.known R.call R.shows R.inv)

  pub shown_stays : (R : Ready P s f n) → RowShown R.model (parts_of f₁ n₁) r (F R.model R.work)
  shown_stays R =
      subst (RowShown R.model (parts_of f₁ n₁) r) (row_is R.work R.call R.inv)
      (row_shown R.call (A.does R.model R.other R.left R.work R.known R.call R.shows R.inv) p (alive_stays R))

  -- G of the row that F left is H of the state before
  module _ {f₂ : Floats} {n₂ : Numbers} (G : Model → Work → Row → Row) {H : Model → Work → Row} where
    pub acts_again : Acts P s f₁ n₁ f₂ n₂ (λ M w. with_row r (G M w (row_of w r)) w)
        → ((M : Model) (o : List ℕ) (k : ℕ) (w : Work) → P M → Call M s → Shows M f n o w → Inv M k w → G M (with_row r (F M w) w) (F M w) ≡ H M w)
        → Acts P s f n f₂ n₂ (λ M w. with_row r (H M w) w)
    acts_again B e =
        record {
          does = λ M o k w q c h i.
              let u = with_row r (F M w) w in
              let j = inv_row r (F M w) w i (λ _. S.inv M o k w q c h i) in
              let g : G M u (row_of u r) ≡ H M w = ap (G M u) (row_is w c i) ∙ e M o k w q c h i in
              subst (λ (y : Work). Shows M f₂ n₂ o y) (ap (λ (y : Row). with_row r y u) g ∙ row_again r (F M w) (H M w) w) (B.does M o k u q c (A.does M o k w q c h i) j);
        }

  pub reads_again : {B : Type 0} {z : B} (G : Model → Work → Row → B) {H : Model → Work → B} → Reads P s f₁ n₁ z (λ M w. G M w (row_of w r))
      → ((M : Model) (o : List ℕ) (k : ℕ) (w : Work) → P M → Call M s → Shows M f n o w → Inv M k w → G M (with_row r (F M w) w) (F M w) ≡ H M w)
      → Reads P s f n z H
  reads_again G t e =
      record {
        reads = λ M o k w q c h i.
            let u = with_row r (F M w) w in
            let j = inv_row r (F M w) w i (λ _. S.inv M o k w q c h i) in
            sym (ap (G M u) (row_is w c i) ∙ e M o k w q c h i) ∙ t.reads M o k u q c (A.does M o k w q c h i) j;
      }
