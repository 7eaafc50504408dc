use Rattle.std.proofs.Common.{ap}
use Rattle.std.specs.List.{fold}
use Rattle.std.proofs.lemmas.List.{take-append-le}
use Rattle.cov_edit.specs.Numbering.{numbers_of, numbered}
use Rattle.cov_edit.specs.Variant.{edited}
use Rattle.cov_edit.specs.Replay.{replay}
use Rattle.cov_history.specs.Sessions.{edits_of}
use Rattle.cov_history.proofs.laws.seen_stays.Goals as goal

pub returns : goal.returns
returns c = λ history later s within. ap (λ h. fold edited (replay s.choice h) (numbered (numbers_of h) (edits_of s))) (take-append-le s.base history later within)
