-- The rows of a variable, as a part of `adjacency`: view's invariant over a list from its beginning to its end.
use Rattle.std.specs.Prelude.{ℕ, ◌+◌, ◌-◌, ◌≤◌, ◌<◌, ◌≡◌, refl, List, length, get_or, take, drop}
use Rattle.std.proofs.Common.{arith, ap, sym, ◌∙◌, subst}
use Rattle.std.proofs.Math.Seq.{slice, take-length}
use Rattle.std.proofs.lemmas.List.{drop-take}
use Rattle.definition.specs.Marks.{mark_var}
use Rattle.space.specs.declared.Context.{Context}
use Rattle.space.specs.Store.{Numbers}
use Rattle.view.specs.Inv.{Below}
use Rattle.view.specs.Acts.{ReadyN, ActsN, Any, ready_any}
use Rattle.view.specs.Adjacency.{Adj, adj_long, adj_rise, adj_within, adj_rows, var_end}
use Rattle.view.specs.Marks.{mark_all, RowsInv, rows_start, rows_end}

-- the part from a up to e, as a slice's and as a list's
part_is : (a e : ℕ) (l : List ℕ) → a ≤ e → take (e - a) (drop a l) ≡ slice a e l
part_is a e l p = sym (drop-take a (e - a) l) ∙ ap (λ (j : ℕ). drop a (take j l)) (omega (arith, p))

all_of : (l : List ℕ) → slice 0 (length l) l ≡ l
all_of l = take-length l

module _ {s : Context} {adjacency : List ℕ} {n : Numbers} {v : ℕ} (R : ReadyN (Adj adjacency) s n) (p : v < s.vars) where
  abbrev pub from : ℕ
  from = s.vars + 1 + get_or adjacency v 0

  abbrev pub upto : ℕ
  upto = s.vars + 1 + get_or adjacency (v + 1) 0

  -- the places are in order and in the list
  pub from_upto : from ≤ upto
  from_upto = let z = adj_rise R p in omega (arith, z)

  pub upto_in : upto ≤ length adjacency
  upto_in = let z = adj_within R p in let y = adj_long R p in omega (arith, z, y)

  pub own_start : RowsInv s (take (upto - from) (drop from adjacency)) 0 (length (take (upto - from) (drop from adjacency))) 0 n n
  own_start =
      let e = part_is from upto adjacency from_upto in
      let b : Below s.rows (slice from upto adjacency) = adj_rows R p refl refl in
      let c : Below s.rows (slice 0 (length (take (upto - from) (drop from adjacency))) (take (upto - from) (drop from adjacency))) =
      subst (Below s.rows) (sym (all_of (take (upto - from) (drop from adjacency)) ∙ e)) b in
      rows_start (omega arith) c (omega arith) (ready_any R)

  pub own_end : {n' : Numbers} {i : ℕ} → RowsInv s (take (upto - from) (drop from adjacency)) 0 (length (take (upto - from) (drop from adjacency))) i n n'
      → length (take (upto - from) (drop from adjacency)) ≤ i → ActsN (Adj adjacency) s n n' (λ M. mark_var M v)
  own_end {n'} I q =
      let e = part_is from upto adjacency from_upto in
      var_end p refl refl
      (subst (λ (l : List ℕ). ActsN Any s n n' (λ M. mark_all l)) (all_of (take (upto - from) (drop from adjacency)) ∙ e) (rows_end I q))
