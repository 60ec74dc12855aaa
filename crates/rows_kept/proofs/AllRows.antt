-- A property of each row by its number, over the state: it is enough that the row steps keep it.
use Rattle.std.specs.Prelude.{ℕ, zero, suc, ◌≡◌, refl, false, List, [], ◌∷◌, ◌++◌, length, get_or, set}
use Rattle.std.proofs.Common.{arith, sym, subst, length-append}
use Rattle.std.proofs.Math.Decide.{ℕ_discrete, dec_lt}
use Rattle.std.proofs.Math.ListN.{get_or-append, get_or-eq_default}
use Rattle.std.proofs.lemmas.List.{get_or_at}
use Rattle.definition.specs.Model.{Model, Row, with_alive, as_written}
use Rattle.definition.specs.Work.{no_row, drop_row}
use Rattle.rows_kept.specs.Kept.{Kept}
use Rattle.rows_kept.proofs.RowSteps.{changed_kept}
use Rattle.rows_kept.specs.Whole.{Read, unread, queues, drops, HeldThroughout}
use Rattle.rows_kept.specs.AllRows.{AllRows, EachRow}

pub set_all : (Q : ℕ → Row → Type 0) (rs : List Row) (r : ℕ) (x : Row) → AllRows Q rs → Q r x → AllRows Q (set rs r x)
set_all Q [] r x h k q = h q
set_all Q (y ∷ ys) zero x h k zero = k
set_all Q (y ∷ ys) zero x h k (suc q) = h (suc q)
set_all Q (y ∷ ys) (suc r) x h k zero = h zero
set_all Q (y ∷ ys) (suc r) x h k (suc q) = set_all (λ n. Q (suc n)) ys r x (λ n. h (suc n)) k q

pub snoc_all : (Q : ℕ → Row → Type 0) → ((q : ℕ) → Q q no_row) → (rs : List Row) (r : ℕ) (x : Row) → length rs ≡ r → AllRows Q rs → Q r x → AllRows Q (rs ++ (x ∷ []))
snoc_all Q past rs r x e h k q =
    elim (dec_lt q r) [
      | yes l ↦ subst (Q q) (sym (get_or-append rs (x ∷ []) no_row q (omega arith))) (h q)
      | no l ↦ elim (ℕ_discrete r q) [
        | yes i ↦ subst (λ (j : ℕ). Q j (get_or (rs ++ (x ∷ [])) j no_row)) i (subst (Q r) (sym (get_or_at rs x [] no_row r e)) k)
        | no d ↦ subst (Q q) (sym (get_or-eq_default (rs ++ (x ∷ [])) no_row (omega (arith, length-append rs (x ∷ []))))) (past q)
      ]
    ]

pub read_size : {M : Model} {r n : ℕ} {rs : List Row} {queue : List ℕ} → Read M r rs queue n → length rs ≡ r
read_size unread = refl
read_size {M} (queues {r} {rows = rs} t h) = omega (arith, length-append rs (as_written M r ∷ []), read_size h)
read_size {M} (drops {r} {rows = rs} t h) = omega (arith, length-append rs (with_alive false (as_written M r) ∷ []), read_size h)

module _ (M : Model) {G : ℕ → Type 0} {Q : ℕ → Row → Type 0} (K : EachRow M G Q) where
  pub kept : Kept M (λ w. AllRows Q w.rows)
  unfolding drop_row
  kept =
      record {
        bounding = record { marking = record { marks = λ w d c q p. p; counted = λ w a b c p. p }; works = λ w a b p. p; lowers = λ w v x i b p. p; uppers = λ w v x i b p. p };
        rowing =
            record {
              changes = λ w r row a c p. set_all Q w.rows r row p (changed_kept M (K.steps r) c (p r));
              drops = λ w r row g a p. set_all Q w.rows r _ p (K.leaves r row (subst (Q r) g (p r)));
            };
      }

  pub read_all : {r n : ℕ} {rs : List Row} {queue : List ℕ} → Read M r rs queue n → AllRows Q rs
  read_all unread = λ q. K.past q
  read_all (queues {r} {rows = rs} t h) = snoc_all Q K.past rs r _ (read_size h) (read_all h) (K.steps r).folding.as_written_lem
  read_all (drops {r} {rows = rs} t h) = snoc_all Q K.past rs r _ (read_size h) (read_all h) (K.leaves r _ (K.steps r).folding.as_written_lem)

  pub rows_held : HeldThroughout M (λ w. AllRows Q w.rows)
  rows_held = record { kept = kept; passes = λ w p. p; begins = λ ls hs rows queue dirty n b h. read_all h }
