-- What `sample` comes to. This project's rules.
use Rattle.std.specs.Prelude.{◌≡◌, ℕ, false, List}
use Rattle.ep_int.specs.declared.types.Model.TheVariants.{Ilp32}
use Rattle.ep_int.specs.declared.types.Order.TheVariants.{Little, Big}
use Rattle.endport.specs.declared.status.Status.{Status}
use Rattle.ep_sample.specs.Sample.{source_of}
use Rattle.ep_sample.specs.Text.{sample_text}
use Rattle.endport.specs.Check.{Asked, Reports}

-- the report that `check` makes where no option is named
abbrev pub usual : Asked
usual = record { model = Ilp32; left = Little; right = Big; unroll = 32; known_bits = false }

-- The text of a sample, and the status of the report on its source, which is never refused.
pub record IsSample (start fields : ℕ) (status : Status) (text : List ℕ) : Type 0 where
  pub report : List ℕ
  pub reports : Reports usual (source_of start fields) status report
  pub text_is : text ≡ sample_text start fields (source_of start fields) report
