use Rattle.std.proofs.Common.{◌≡◌, ap, [], Some}
use Rattle.std.proofs.lemmas.Result.{on_ok_weaker}
use Rattle.cov_base.specs.Lines.{lines_of}
use Rattle.cov_import.specs.Sources.{StopsAt, StopsReading, kept_lines, source_counts}
use Rattle.cov_import.proofs.Keeping.{ahead_first, read_keeps, read_on, read_stops, stops_reading}
use Rattle.cov_import.proofs.source.read_source.Goals as goal

pub returns-in-Ok-clause-lines : goal.returns-in-Ok-clause-lines
returns-in-Ok-clause-lines g c text left =
    rw c.as_read.ensures
    (read_keeps c.take_all-read.new.kept c.take_all-read.result (λ lines. lines ≡ kept_lines (lines_of text))
    (on_ok_weaker c.take_all-read.result (λ h. h.0)
    (c.take_all-read.ensures.kept text [] (ahead_first c.in-Ok.lines (g.S.Source.left c.args.source.now) text c.in-Ok.ensures left) (ap Some c.new-in-Ok.ensures))))

pub returns-in-Ok-clause-read : goal.returns-in-Ok-clause-read
returns-in-Ok-clause-read g c text left =
    rw c.as_read.ensures
    (read_on c.take_all-read.new.kept c.take_all-read.result (g.S.Source.left c.take_all-read.new.source ≡ Some [])
    (on_ok_weaker c.take_all-read.result (λ h. h.1)
    (c.take_all-read.ensures.kept text [] (ahead_first c.in-Ok.lines (g.S.Source.left c.args.source.now) text c.in-Ok.ensures left) (ap Some c.new-in-Ok.ensures))))

pub returns-in-Ok-clause-stopped : goal.returns-in-Ok-clause-stopped
returns-in-Ok-clause-stopped g c =
    let old = source_counts (g.S.Source.faults c.args.source.now) (g.S.Source.given c.args.source.now) (g.S.Source.ends c.args.source.now) in
    let source = c.take_all-read.new.source in
    let new = source_counts (g.S.Source.faults source) (g.S.Source.given source) (g.S.Source.ends source) in
    rw c.as_read.ensures
    (read_stops c.take_all-read.new.kept c.take_all-read.result (λ fault. StopsAt fault c.take_all-read.new.lines old new) (λ fault. StopsReading fault old new)
    (λ fault h. stops_reading fault c.in-Ok.lines c.take_all-read.new.lines old new c.in-Ok.ensures c.take_all-read.ensures.counted h) c.take_all-read.ensures.stopped)
