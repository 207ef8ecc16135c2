-- `line::read::read_into` meets its contract. Assumes nothing.
use mathlib.Core.Path.{refl}
use Rattle.line.proofs.IntoLaws.{into_first, into_second}
use Rattle.line.proofs.read.read_into.Goals as goal

pub returns-then-i-lt-FIRST_RECORDS-clause-same : goal.returns-then-i-lt-FIRST_RECORDS-clause-same
returns-then-i-lt-FIRST_RECORDS-clause-same c =
    let into = into_first _ _ _ _ _ _ _ _ _ c.args.records.now.roomy (c.read_line.ensures _ c.args.p.cursor.fed.line) c.if-i-lt-FIRST_RECORDS.true in
    record { first = refl; second = refl; first_long = into.first; second_long = into.second }

pub returns-then-i-lt-FIRST_RECORDS-clause-into : goal.returns-then-i-lt-FIRST_RECORDS-clause-into
returns-then-i-lt-FIRST_RECORDS-clause-into c = λ e h. into_first _ _ _ _ _ _ _ _ _ c.args.records.now.roomy (c.read_line.ensures e h) c.if-i-lt-FIRST_RECORDS.true

pub returns-clause-same : goal.returns-clause-same
returns-clause-same c =
    let into = into_second _ _ _ _ _ _ _ _ _ c.args.records.now.roomy (c.read_line-2.ensures _ c.args.p.cursor.fed.line) c.if-i-lt-FIRST_RECORDS.false c.requires in
    record { first = refl; second = refl; first_long = into.first; second_long = into.second }

pub returns-clause-into : goal.returns-clause-into
returns-clause-into c = λ e h. into_second _ _ _ _ _ _ _ _ _ c.args.records.now.roomy (c.read_line-2.ensures e h) c.if-i-lt-FIRST_RECORDS.false c.requires
