-- `read_next` meets its contract: one line by the law of a line, its groups on the stack, or a refusal. Assumes nothing.
use Rattle.std.specs.Prelude.{Err}
use Rattle.std.proofs.Common.{◌≡◌, sym, inl, inr}
use borrow.Author.Rules.{rules}
use Rattle.sheet.specs.declared.reader.ReadError.TheVariants.{BadLine}
use Rattle.sheet.specs.Next.{next_big, next_unformed, next_asked, next_more}
use native.Mathlib.Omega.{arith}
use Rattle.words.specs.Sorts.{sort_number, sort_low}
use Rattle.sheet.proofs.reader.read_next.Goals as goal

pub returns-then-i-eq-MAX_RECORDS-clause-next : goal.returns-then-i-eq-MAX_RECORDS-clause-next
returns-then-i-eq-MAX_RECORDS-clause-next c = λ depth o. next_big (sort_number c.take-top.result.sort) o c.take-top.ensures.topmost c.requires.in_line.fed.line c.line.ensures (elim c.then-i-eq-MAX_RECORDS.either [ inl q ↦ inl (omega (arith, q)) | inr q ↦ inr q.1 ])

pub returns-in_err-line-clause-next : goal.returns-in_err-line-clause-next
returns-in_err-line-clause-next c =
    λ depth o.
    let none = rw c.in_err-line.was at c.ok_or.ensures.ok_part in
    let into = rw none at (c.read_into.ensures.into _ c.requires.in_line.fed.line) in
    let bad : Err (BadLine c.line-2.result) ≡ c.ok_or.result = rw none at (sym c.ok_or.ensures.value) in
    let answer : c.from_residual.result ≡ Err (BadLine c.line-2.result) = search rules in
    rw answer (next_unformed (sort_number c.take-top.result.sort) o c.take-top.ensures.topmost c.requires.in_line.fed.line (omega arith) (omega arith) c.line-2.ensures into.line.answer)

pub push_groups-requires : goal.push_groups-requires
push_groups-requires c =
    let some = rw c.in_ok-line.was at c.ok_or.ensures.ok_part in
    let into = rw some at (c.read_into.ensures.into _ c.requires.in_line.fed.line) in
    next_asked (sort_number c.take-top.result.sort) c.requires.so_far.1 c.take-top.ensures.topmost c.requires.in_line.fed.line (omega arith) (omega arith) (sort_low c.take-top.result.sort) into c.take-top.ensures.high c.room_below.ensures

pub returns-clause-next : goal.returns-clause-next
returns-clause-next c =
    λ depth o.
    let some = rw c.in_ok-line.was at c.ok_or.ensures.ok_part in
    let into = rw some at (c.read_into.ensures.into _ c.requires.in_line.fed.line) in
    let groups = rw (c.at.ensures.0, c.at.ensures.1, c.shared-records.ensures.0, c.shared-records.ensures.1) at c.push_groups.ensures in
    let more = next_more (sort_number c.take-top.result.sort) o c.take-top.ensures.topmost c.requires.in_line.fed.line (omega arith) (omega arith) (sort_low c.take-top.result.sort) into c.room_below.ensures c.take-top.ensures groups in
    (c.advance.ensures.records, rw (c.advance.ensures.records, c.advance.ensures.pos, c.advance.ensures.write) more)
