use Rattle.std.proofs.Common.{rules, arith, ◌≡◌, ◌<◌, ◌≤◌, true, false, length, take}
use Rattle.std.specs.Str.{bytes_eq}
use Rattle.std.proofs.lemmas.Slice.Eq.{bytes_eq-Decides}
use Rattle.cov_journal.specs.Journal.{header}
use Rattle.cov_replica.proofs.Steps.{fed_few, fed_other, fed_read}
use Rattle.cov_replica.proofs.reading.Reading.read.Goals as goal

pub returns-then-not-begins_with_header-clause-reads : goal.returns-then-not-begins_with_header-clause-reads
returns-then-not-begins_with_header-clause-reads c =
    let s = c.args.self.now in
    let large : 13 < length s.bytes.items = search (rules, arith) in
    let other : bytes_eq (take 12 s.bytes.items) header ≡ false = search rules in
    fed_other s.bytes.items s.at c.args.before s.digest s.engine.history c.requires.read c.requires.within large other

pub read_records-requires-clause-read : goal.read_records-requires-clause-read
read_records-requires-clause-read c =
    let s = c.args.self.now in
    let large : 13 < length s.bytes.items = search (rules, arith) in
    let headed : bytes_eq (take 12 s.bytes.items) header ≡ true = search rules in
    fed_read s.bytes.items s.at c.args.before s.digest s.engine.history c.requires.read c.requires.within large ((bytes_eq-Decides (take 12 s.bytes.items) header).0 headed)

pub returns-then-len-le13-clause-reads : goal.returns-then-len-le13-clause-reads
returns-then-len-le13-clause-reads c =
    let s = c.args.self.now in
    let small : length s.bytes.items ≤ 13 = search (rules, arith) in
    fed_few s.bytes.items s.at c.args.before s.digest s.engine.history c.requires.read c.requires.within small
