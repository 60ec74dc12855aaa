-- What comes back beside the lists: the counts as the working numbers have them, and whether the result differs from the model.
use Rattle.std.specs.Prelude.{ℕ, ◌%◌, ◌^◌, ◌<◌, ◌≡◌, refl, Bool, true, false, not, ◌||◌, List, eqb, get_or, Float}
use Rattle.std.proofs.Common.{arith, ap, ◌∙◌}
use borrow.Author.Tests.{eq-eqb, ne_eqb}
use Rattle.definition.specs.declared.Counts.{Counts}
use Rattle.definition.specs.Model.{counts}
use Rattle.definition.specs.Emit.{same_bounds}
use Rattle.definition.specs.Choices.{or_true_right}
use Rattle.space.specs.declared.Context.{Context}
use Rattle.space.specs.Store.{Floats, Numbers}
use Rattle.view.specs.Shows.{tally_of, CountsShown}
use Rattle.output.specs.declared.Reduced.{Reduced}

-- ---- the counts
abbrev pub counts_of : Numbers → Counts
counts_of n = counts (get_or n.dropped 0 0) (get_or n.tightened 0 0) (get_or n.fixed 0 0) (get_or n.rewrote 0 0) (get_or n.passes 0 0)

pub five-counts : {a a' b b' d d' e e' g g' : ℕ} → a ≡ a' → b ≡ b' → d ≡ d' → e ≡ e' → g ≡ g' → counts a b d e g ≡ counts a' b' d' e' g'
five-counts p q r t u = rw (p, q, r, t, u)

-- z has the counts k: four of them modulo 2 ^ 64, which none of them reaches (tally, `counts_fit`)
pub record CountedAs (z k : Counts) : Type 0 where
  pub rowsDropped : z.rowsDropped ≡ k.rowsDropped % 2 ^ 64
  pub boundsTightened : z.boundsTightened ≡ k.boundsTightened % 2 ^ 64
  pub varsFixed : z.varsFixed ≡ k.varsFixed % 2 ^ 64
  pub coeffsTightened : z.coeffsTightened ≡ k.coeffsTightened % 2 ^ 64
  pub passes : z.passes ≡ k.passes

-- as the working numbers show them
pub counted_as : (n : Numbers) {z k : Counts} → z ≡ counts_of n → CountsShown (tally_of n) k → CountedAs z k
counted_as n e c =
    record {
      rowsDropped = ap (λ (x : Counts). x.rowsDropped) e ∙ c.dropped;
      boundsTightened = ap (λ (x : Counts). x.boundsTightened) e ∙ c.tightened;
      varsFixed = ap (λ (x : Counts). x.varsFixed) e ∙ c.fixed;
      coeffsTightened = ap (λ (x : Counts). x.coeffsTightened) e ∙ c.rewrote;
      passes = ap (λ (x : Counts). x.passes) e ∙ c.passes;
    }

-- counts below 2 ^ 64 are the counts
pub record CountsSmall (k : Counts) : Type 0 where
  pub rowsDropped : k.rowsDropped < 2 ^ 64
  pub boundsTightened : k.boundsTightened < 2 ^ 64
  pub varsFixed : k.varsFixed < 2 ^ 64
  pub coeffsTightened : k.coeffsTightened < 2 ^ 64

small-mod : (z k : ℕ) → z ≡ k % 2 ^ 64 → k < 2 ^ 64 → z ≡ k
small-mod z k e p = omega (arith, e, p)

pub counts_are : (z k : Counts) → CountedAs z k → CountsSmall k → z ≡ k
counts_are z k c p =
    let a = small-mod z.rowsDropped k.rowsDropped c.rowsDropped p.rowsDropped in
    let b = small-mod z.boundsTightened k.boundsTightened c.boundsTightened p.boundsTightened in
    let d = small-mod z.varsFixed k.varsFixed c.varsFixed p.varsFixed in
    let e = small-mod z.coeffsTightened k.coeffsTightened c.coeffsTightened p.coeffsTightened in
    five-counts a b d e c.passes

-- ---- differs, of the emitted bounds and the numbers of emitted and kept rows
unfoldable pub differsBy : Context → List Float → List Float → Floats → ℕ → ℕ → Bool
differsBy s ls us f e k = not (same_bounds f.elo ls) || not (same_bounds f.ehi us) || not (eqb k 0) || not (eqb e s.rows)

module _ (s : Context) (ls us : List Float) (f : Floats) (e k : ℕ) {z : Bool} (c : z ≡ (not (same_bounds f.elo ls) || not (same_bounds f.ehi us))) where
  pub differs-bounds : z ≡ true → true ≡ differsBy s ls us f e k
  unfolding differsBy
  differs-bounds t = rw (← c, t)

  pub differs-kept : (k ≡ 0 → ⊥) → true ≡ differsBy s ls us f e k
  unfolding differsBy
  differs-kept q = rw (← c, ne_eqb k 0 q, or_true_right z true refl)

  pub differs-emitted : z ≡ false → k ≡ 0 → not (eqb e s.rows) ≡ differsBy s ls us f e k
  unfolding differsBy
  differs-emitted t q = rw (← c, t, eq-eqb k 0 q)

-- ---- what comes back where e rows are emitted, t terms written and k rows kept
abbrev pub reducedOf : Context → List Float → List Float → Floats → Numbers → ℕ → ℕ → ℕ → Reduced
reducedOf s ls us f n e t k = record { counts = counts_of n; emitted = e; terms = t; kept = k; flag = differsBy s ls us f e k }

pub result-is : {k k' : Counts} {b b' : Bool} {e t j : ℕ} → k ≡ k' → b ≡ b'
    → ◌≡◌ {A = Reduced} (record { counts = k; emitted = e; terms = t; kept = j; flag = b })
    (record { counts = k'; emitted = e; terms = t; kept = j; flag = b' })
result-is p q = rw (p, q)
