-- THE CODE ALONE SAYS WHICH ANSWER IT IS: a refusal's number is that of a row of the table, from 1 to 99, so it is neither a model's code nor infeasible's.
use Rattle.std.specs.Prelude.{ℕ, ◌≤◌, ◌≡◌, refl, ◌↔◌, Bool, true, false, List, ltb, length, Float}
use Rattle.std.proofs.Common.{arith, sym, ◌∙◌}
use Rattle.std.proofs.Math.Path.{ap}
use Rattle.std.proofs.Math.Option.{Option, none, some, none-ne-some, some-injective}
use Rattle.floats.specs.Num.{choose}
use Rattle.definition.specs.declared.Counts.{Counts}
use Rattle.definition.specs.Model as definition
use Rattle.definition.specs.Model.{Model, Reduced}
use Rattle.definition.specs.Presolve.{presolve}
use Rattle.definition.specs.Refusal.{Lent, earliest, refusal}
use Rattle.emit.specs.Filling.{over}
use Rattle.refuse.specs.declared.Refusal.{Refusal}
use Rattle.refuse.specs.declared.Refusal.TheVariants.{LengthsDisagree, TooLarge, StartsWrong, IndicesWrong, RowsLong, CodesWrong, BoundsWrong, NumbersWrong, RhsesWrong}
use Rattle.refuse.specs.declared.Refusal.TheVariants.{TolerancesWrong, TooShort}
use Rattle.refuse.specs.Number.{number_of}
use Rattle.plan.specs.Refusal.{plan_refusal}
use Rattle.output.specs.Results.{Results, written}
use Rattle.presolve.specs.Promise.{Working, lengths, outcome, results_after}
use Rattle.presolve_c.specs.Face.{or_else, short_answer, face_refusal, code_of, flag_number, five_of, nine_of, numbers_of, FacePromise}

-- ---- a refusal's number: that of a row of the table
pub record Named (k : ℕ) : Type 0 where
  pub row : Refusal
  pub is : number_of row ≡ k

pub record Numbered (r : Option ℕ) : Type 0 where
  pub is : (k : ℕ) → r ≡ some k → Named k

numbered_none : Numbered none
numbered_none = record { is = λ k e. absurd (none-ne-some k e) }

numbered_row : (row : Refusal) (t : Bool) {r : Option ℕ} → Numbered r → Numbered (choose t (some (number_of row)) r)
unfolding choose
numbered_row row true later = record { is = λ k e. record { row = row; is = some-injective (number_of row) k e } }
numbered_row row false later = later

numbered_else : (r : Option ℕ) {later : Option ℕ} → Numbered r → Numbered later → Numbered (or_else r later)
unfolding or_else
numbered_else (some k) p q = p
numbered_else none p q = q

numbered_table : (M : Model) (L : Lent) → Numbered (refusal M L)
unfolding refusal earliest
numbered_table M L =
    numbered_row LengthsDisagree _ (numbered_row TooLarge _ (numbered_row StartsWrong _ (numbered_row IndicesWrong _ (numbered_row RowsLong _ (numbered_row CodesWrong _
    (numbered_row BoundsWrong _ (numbered_row NumbersWrong _ (numbered_row RhsesWrong _ (numbered_row TolerancesWrong _ (numbered_row TooShort _ numbered_none))))))))))

within : (row : Refusal) → (1 ≤ number_of row) × (number_of row ≤ 99)
within LengthsDisagree = omega arith
within TooLarge = omega arith
within StartsWrong = omega arith
within IndicesWrong = omega arith
within RowsLong = omega arith
within CodesWrong = omega arith
within BoundsWrong = omega arith
within NumbersWrong = omega arith
within RhsesWrong = omega arith
within TolerancesWrong = omega arith
within TooShort = omega arith

pub in_range : {k : ℕ} → Named k → (1 ≤ k) × (k ≤ 99)
in_range n = let w = within n.row in (omega (arith, w, n.is), omega (arith, w, n.is))

pub numbered : (M : Model) (L : Lent) (n : ℕ) → Numbered (face_refusal M L n)
unfolding face_refusal short_answer
numbered M L n = numbered_else (refusal M L) (numbered_table M L) (numbered_row TooShort (ltb n 9) numbered_none)

-- of a plan's table, which has no row about lent slices
pub plan_numbered : (M : Model) (p : List Float) → Numbered (plan_refusal M p)
unfolding plan_refusal earliest
plan_numbered M p =
    numbered_row LengthsDisagree _ (numbered_row TooLarge _ (numbered_row StartsWrong _ (numbered_row IndicesWrong _ (numbered_row RowsLong _ (numbered_row CodesWrong _
    (numbered_row BoundsWrong _ (numbered_row NumbersWrong _ (numbered_row RhsesWrong _ (numbered_row TolerancesWrong _ numbered_none)))))))))

-- ---- by the code
pub record IsModel (r : Option ℕ) (a : definition.Answer) : Type 0 where
  pub reduced : Reduced
  pub accepted : r ≡ none
  pub is : a ≡ definition.done reduced

pub record IsInfeasible (r : Option ℕ) (a : definition.Answer) : Type 0 where
  pub counts : Counts
  pub accepted : r ≡ none
  pub is : a ≡ definition.infeasible counts

model_by : (r : Option ℕ) (a : definition.Answer) → Numbered r → code_of (outcome r a) ≡ 0 → IsModel r a
unfolding code_of outcome
model_by (some k) a n e = let m = in_range (n.is k refl) in absurd (omega (arith, m, e))
model_by none (definition.infeasible k) n e = absurd (omega (arith, e))
model_by none (definition.done x) n e = record { reduced = x; accepted = refl; is = refl }

infeasible_by : (r : Option ℕ) (a : definition.Answer) → Numbered r → code_of (outcome r a) ≡ 100 → IsInfeasible r a
unfolding code_of outcome
infeasible_by (some k) a n e = let m = in_range (n.is k refl) in absurd (omega (arith, m, e))
infeasible_by none (definition.infeasible k) n e = record { counts = k; accepted = refl; is = refl }
infeasible_by none (definition.done x) n e = absurd (omega (arith, e))

refused_by : (r : Option ℕ) (a : definition.Answer) (k : ℕ) → code_of (outcome r a) ≡ k → 1 ≤ k → k ≤ 99 → r ≡ some k
unfolding code_of outcome
refused_by (some j) a k e p q = ap some e
refused_by none (definition.infeasible c) k e p q = absurd (omega (arith, e, q))
refused_by none (definition.done x) k e p q = absurd (omega (arith, e, p))

refused_of : (r : Option ℕ) (a : definition.Answer) (k : ℕ) → r ≡ some k → code_of (outcome r a) ≡ k
unfolding code_of outcome
refused_of r a k e = ap (λ (o : Option ℕ). code_of (outcome o a)) e

module _ {M : Model} {b b' : Results} {x x' : Working} {ans ans' : List ℕ} {z : ℕ} (p : FacePromise M b x ans z b' x' ans') where
  abbrev table : Option ℕ
  table = face_refusal M (lengths b x) (length ans)

  -- 1 to 99: exactly the table's refusals
  pub refused_exactly : (k : ℕ) → ((z ≡ k) × (1 ≤ k) × (k ≤ 99)) ↔ (table ≡ some k)
  refused_exactly k = (
    (λ h. refused_by table (presolve M) k (sym p.code ∙ h.0) h.1 h.2),
    (λ e. let n = in_range ((numbered M (lengths b x) (length ans)).is k e) in (p.code ∙ refused_of table (presolve M) k e, n.0, n.1)),
  )

  -- 0: the definition's model stands in the result slices, and its nine numbers in the answer's
  pub record ModelTold : Type 0 where
    pub reduced : Reduced
    pub accepted : table ≡ none
    pub is : presolve M ≡ definition.done reduced
    pub results : b' ≡ written reduced b
    pub answer : ans' ≡ over (nine_of reduced.counts (length reduced.emitted) (length reduced.terms) (length reduced.kept) (flag_number reduced.flag)) ans

  pub model_told : z ≡ 0 → ModelTold
  unfolding outcome results_after numbers_of
  model_told e =
      let m = model_by table (presolve M) (numbered M (lengths b x) (length ans)) (sym p.code ∙ e) in
      record {
        reduced = m.reduced;
        accepted = m.accepted;
        is = m.is;
        results = p.results ∙ ap (λ (o : Option ℕ). results_after o (presolve M) b) m.accepted ∙ ap (λ (a : definition.Answer). results_after none a b) m.is;
        answer = p.answer ∙ ap (λ (o : Option ℕ). over (numbers_of (outcome o (presolve M))) ans) m.accepted ∙ ap (λ (a : definition.Answer). over (numbers_of (outcome none a)) ans) m.is;
      }

  -- 100: infeasible, with its five counts in the answer's slice
  pub record InfeasibleTold : Type 0 where
    pub counts : Counts
    pub accepted : table ≡ none
    pub is : presolve M ≡ definition.infeasible counts
    pub results : b' ≡ b
    pub answer : ans' ≡ over (five_of counts) ans

  pub infeasible_told : z ≡ 100 → InfeasibleTold
  unfolding outcome results_after numbers_of
  infeasible_told e =
      let m = infeasible_by table (presolve M) (numbered M (lengths b x) (length ans)) (sym p.code ∙ e) in
      record {
        counts = m.counts;
        accepted = m.accepted;
        is = m.is;
        results = p.results ∙ ap (λ (o : Option ℕ). results_after o (presolve M) b) m.accepted ∙ ap (λ (a : definition.Answer). results_after none a b) m.is;
        answer = p.answer ∙ ap (λ (o : Option ℕ). over (numbers_of (outcome o (presolve M))) ans) m.accepted ∙ ap (λ (a : definition.Answer). over (numbers_of (outcome none a)) ans) m.is;
      }
