-- What coefficient tightening knows of the model: everything but the rows of each variable.
use Rattle.std.specs.Prelude.{◌≡◌}
use Rattle.definition.specs.Model.{Model}
use Rattle.view.specs.declared.Lists.{Lists}
use Rattle.view.specs.Known.{Spans, Written, written_spans}
use Rattle.readers.specs.Reading.{Domains}
use Rattle.coeffs.specs.Eligible.{Binaries}

pub record Tightening (x : Lists) (M : Model) : Type 0 where
  pub domain : M.domain ≡ x.domain.now
  pub written : Written x.rows M

module _ {x : Lists} (M : Model) (k : Tightening x M) where
  pub tightening_spans : Spans x.rows.starts.now M
  tightening_spans = written_spans M k.written

  pub tightening_written : Written x.rows M
  tightening_written = k.written

  pub tightening_domains : Domains x.domain.now M
  tightening_domains = record { domain = k.domain }

  pub tightening_binaries : Binaries x.domain.now x.rows.starts.now M
  tightening_binaries = record { domain = k.domain; starts = k.written.starts }
