-- The first damage of an image that stands for no history.
use Rattle.std.specs.Prelude.{◌≡◌, ◌≢◌, ◌⊎◌, ℕ, ◌+◌, ◌<◌, ◌^◌, List, ◌∷◌, ◌++◌, length, Some}
use Rattle.std.specs.List.{AllByRecursion}
use Rattle.cov_edit.specs.declared.command.Command.{Command}
use Rattle.cov_history.specs.Verdict.{verdict, IsLegal}
use Rattle.cov_journal.specs.Journal.{no_digest, next_digest, last_digest, body, stored}
use Rattle.cov_journal.specs.Reading.{IsCut, IsNoStore}
use Rattle.cov_record.specs.FitsRecord.{FitsRecord}
use Rattle.cov_record.specs.Laws.{IsNoRecord}
use Rattle.cov_record.specs.Payload.{payload}
use Rattle.cov_store.specs.Stands.{payloads}
use Rattle.cov_store.specs.declared.damage.StoreDamage.{StoreDamage}
use Rattle.cov_store.specs.declared.damage.StoreDamage.TheVariants as damages

-- the bytes behind an open gate begin with a whole record of this payload and this digest, and a gate follows
pub record Begins (behind payload digest : List ℕ) : Type 0 where
  pub short : length payload < 2 ^ 32
  pub size : length digest ≡ 32
  pub gate : ℕ
  pub rest : List ℕ
  pub bytes : behind ≡ body digest payload ++ gate ∷ rest

-- what is wrong with the record behind an open gate, after a history and a digest: the first of these that holds
abbrev pub HasCause : List Command → List ℕ → List ℕ → StoreDamage → Type 0
HasCause history before behind damages.Cut = IsCut behind
HasCause history before behind damages.Digest = (p : List ℕ) × (d : List ℕ) × Begins behind p d × (d ≢ next_digest before p)
HasCause history before behind damages.NotARecord = (p : List ℕ) × Begins behind p (next_digest before p) × IsNoRecord p
HasCause history before behind (damages.Refused refusal) =
    (command : Command) × Begins behind (payload command) (next_digest before (payload command)) × FitsRecord command × (verdict history command ≡ Some refusal)

-- the image has whole records of a legal history, and then one that is damaged
pub record IsDamagedAfter (history : List Command) (image : List ℕ) (cause : StoreDamage) : Type 0 where
  pub legal : IsLegal history
  pub fits : AllByRecursion FitsRecord history
  pub behind : List ℕ
  pub bytes : image ≡ stored (payloads history) (1 ∷ behind)
  pub cause_is : HasCause history (last_digest no_digest (payloads history)) behind cause

-- the record of this number, from 1, is the first damaged one
pub record HasDamage (image : List ℕ) (number : ℕ) (cause : StoreDamage) : Type 0 where
  pub history : List Command
  pub long : 13 < length image
  pub number_is : number ≡ length history + 1
  pub after : IsDamagedAfter history image cause

-- no store is opened from the image: it is none, or a record of it is damaged
abbrev pub IsUnopened : List ℕ → Type 0
IsUnopened image = IsNoStore image ⊎ ((number : ℕ) × (cause : StoreDamage) × HasDamage image number cause)
