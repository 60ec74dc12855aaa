-- The rows of each variable, as the lent slice `adjacency` has them: where each variable's rows start, for the variables and one more, and then the rows.
use Rattle.std.specs.Prelude.{ℕ, zero, suc, ◌+◌, ◌≤◌, ◌<◌, ◌≡◌, refl, Bool, true, false, List, [], ◌∷◌, length, get_or}
use Rattle.std.proofs.Common.{arith, add-one, ap, sym, ◌∙◌, subst}
use Rattle.std.proofs.Math.Seq.{slice}
use Rattle.floats.specs.Num.{choose}
use Rattle.definition.specs.Model.{Model}
use Rattle.definition.specs.Work.{Work}
use Rattle.definition.specs.Marks.{mark_row, adjacent, mark_from, mark_var}
use Rattle.space.specs.declared.Context.{Context}
use Rattle.space.specs.Store.{Numbers}
use Rattle.view.specs.Shows.{Shows}
use Rattle.view.specs.Inv.{Below}
use Rattle.view.specs.Acts.{ReadyN, ActsN, Any}
use Rattle.view.specs.Marks.{mark_all}

-- the rows adjacent to v among the n rows from r on
unfoldable pub adjacent_from : Model → ℕ → ℕ → ℕ → List ℕ
adjacent_from M zero r v = []
adjacent_from M (suc n) r v =
    let later = adjacent_from M n (suc r) v in
    choose (adjacent M v r) (r ∷ later) later

abbrev pub adjacent_rows : Model → ℕ → List ℕ
adjacent_rows M v = adjacent_from M (length M.rhs) 0 v

choose_mark : (b : Bool) (r : ℕ) (rs : List ℕ) (w : Work) → mark_all (choose b (r ∷ rs) rs) w ≡ mark_all rs (choose b (mark_row r w) w)
unfolding choose mark_all
choose_mark true r rs w = refl
choose_mark false r rs w = refl

mark_from_lem : (M : Model) (n r v : ℕ) (w : Work) → mark_from M n r v w ≡ mark_all (adjacent_from M n r v) w
unfolding mark_from adjacent_from mark_all
mark_from_lem M zero r v w = refl
mark_from_lem M (suc n) r v w = mark_from_lem M n (suc r) v _ ∙ sym (choose_mark (adjacent M v r) r (adjacent_from M n (suc r) v) w)

pub mark_var_all : (M : Model) (v : ℕ) (w : Work) → mark_var M v w ≡ mark_all (adjacent_rows M v) w
unfolding mark_var
mark_var_all M v w = mark_from_lem M (length M.rhs) 0 v w

-- the adjacent rows are rows
cut : (b : Bool) (m r : ℕ) (l : List ℕ) → r < m → ((j : ℕ) → j < length l → get_or l j 0 < m) → (i : ℕ) → i < length (choose b (r ∷ l) l) → get_or (choose b (r ∷ l) l) i 0 < m
unfolding choose
cut true m r l p h zero q = p
cut true m r l p h (suc i) q = h i (omega arith)
cut false m r l p h i q = h i q

adjacent_below : (M : Model) (n r v i : ℕ) → i < length (adjacent_from M n r v) → get_or (adjacent_from M n r v) i 0 < r + n
unfolding adjacent_from
adjacent_below M zero r v i h = absurd (omega arith)
adjacent_below M (suc n) r v i h =
    cut (adjacent M v r) (r + suc n) r (adjacent_from M n (suc r) v) (omega arith) (λ j q. let z = adjacent_below M n (suc r) v j q in omega arith) i h

pub record Adjacency (M : Model) (adjacency : List ℕ) : Type 0 where
  pub long : suc (length M.lower) + length M.index ≤ length adjacency
  pub rise : (v : ℕ) → v < length M.lower → get_or adjacency v 0 ≤ get_or adjacency (suc v) 0
  pub within : (v : ℕ) → v < length M.lower → get_or adjacency (suc v) 0 ≤ length M.index
  pub rows : (v : ℕ) → v < length M.lower → slice (suc (length M.lower) + get_or adjacency v 0) (suc (length M.lower) + get_or adjacency (suc v) 0) adjacency ≡ adjacent_rows M v

-- what the slice says of the model
abbrev pub Adj : List ℕ → Model → Type 0
Adj adjacency M = Adjacency M adjacency

-- ---- mark_var
module _ {s : Context} {adjacency : List ℕ} {n : Numbers} {v : ℕ} (R : ReadyN (Adj adjacency) s n) (p : v < s.vars) where
  abbrev M₀ : Model
  M₀ = R.ready.model

  in_vars : v < length M₀.lower
  in_vars = omega (arith, p, R.ready.call.vars)

  pub adj_long : suc s.vars + s.terms ≤ length adjacency
  adj_long = omega (arith, R.ready.known.long, R.ready.call.vars, R.ready.call.terms)

  pub adj_rise : get_or adjacency v 0 ≤ get_or adjacency (v + 1) 0
  adj_rise = rw add-one (R.ready.known.rise v in_vars)

  pub adj_within : get_or adjacency (v + 1) 0 ≤ s.terms
  adj_within = rw add-one (let z = R.ready.known.within v in_vars in omega (arith, z, R.ready.call.terms))

  pub adj_rows : {a e : ℕ} → a ≡ s.vars + 1 + get_or adjacency v 0 → e ≡ s.vars + 1 + get_or adjacency (v + 1) 0 → Below s.rows (slice a e adjacency)
  adj_rows {a} {e} ea ee =
      let c = R.ready.call in
      let xa : a ≡ suc (length M₀.lower) + get_or adjacency v 0 = omega (arith, ea, c.vars) in
      let xe : e ≡ suc (length M₀.lower) + get_or adjacency (suc v) 0 = let z : get_or adjacency (v + 1) 0
      ≡ get_or adjacency (suc v) 0 = ap (λ (j : ℕ). get_or adjacency j 0) (add-one v) in omega (arith, ee, z, c.vars) in
      let z : slice a e adjacency ≡ adjacent_rows M₀ v = rw (xa, xe) (R.ready.known.rows v in_vars) in
      rw z (record { below = λ i q. let y = adjacent_below M₀ (length M₀.rhs) 0 v i q in omega (arith, y, c.rows) })

pub var_end : {s : Context} {adjacency : List ℕ} {n n' : Numbers} {v a e : ℕ} → v < s.vars → a ≡ s.vars + 1 + get_or adjacency v 0 → e ≡ s.vars + 1 + get_or adjacency (v + 1) 0
    → ActsN Any s n n' (λ M. mark_all (slice a e adjacency)) → ActsN (Adj adjacency) s n n' (λ M. mark_var M v)
var_end {s} {adjacency} {n} {n'} {v} {a} {e} p ea ee t =
    record {
      does = λ M f o k w x c h i.
          let xa : a ≡ suc (length M.lower) + get_or adjacency v 0 = omega (arith, ea, c.vars) in
          let xe : e ≡ suc (length M.lower) + get_or adjacency (suc v) 0 = let z : get_or adjacency (v + 1) 0
          ≡ get_or adjacency (suc v) 0 = ap (λ (j : ℕ). get_or adjacency j 0) (add-one v) in omega (arith, ee, z, c.vars) in
          let z : slice a e adjacency ≡ adjacent_rows M v = rw (xa, xe) (x.rows v (omega (arith, p, c.vars))) in
          let y : mark_all (slice a e adjacency) w ≡ mark_var M v w = ap (λ (l : List ℕ). mark_all l w) z ∙ sym (mark_var_all M v w) in
          subst (λ (u : Work). Shows M f n' o u) y (t.does M f o k w tt c h i);
    }
