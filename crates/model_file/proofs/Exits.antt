-- What the exit of a `?` answers: the refusal of the call.
use Rattle.std.specs.Prelude.{ℕ, ◌≡◌, List, Result}
use Rattle.std.specs.Result.{IsErrAnd}
use Rattle.std.proofs.lemmas.Result.{err_from_is_err_and}
use Rattle.model_file.specs.declared.FileRefusal.{FileRefusal}
use Rattle.model_file.specs.declared.Header.{Header}
use Rattle.model_file.specs.Format.{Got, refused}
use Rattle.model_file.specs.Places.{answered}
use Rattle.model_file.specs.Reading.{FileRead, number_of, file_read}

pub failed : {A : Type 0} (r : Result A FileRefusal) (e : FileRefusal) (s : List ℕ) {g : Got A} → IsErrAnd r (λ x. x ≡ e) → g ≡ refused (number_of e) → g ≡ answered r s
failed r e s h f = let p = err_from_is_err_and r h in rw (p.1, p.2) f

pub file_failed : (r : Result Header FileRefusal) (e : FileRefusal) {f : FileRead} → IsErrAnd r (λ x. x ≡ e) → FileRead.Refused (number_of e) ≡ f → file_read r ≡ f
file_failed r e h f = let p = err_from_is_err_and r h in rw (p.1, p.2) f
