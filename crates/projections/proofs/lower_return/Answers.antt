-- `projections::lower_return` meets its contract.
use Rattle.std.proofs.Common.{arith}
use Rattle.projections.specs.Room
use Rattle.projections.proofs.ReturnLaws
use Rattle.projections.proofs.lower_return.Goals as goal

pub count-n-requires : goal.count-n-requires
count-n-requires c = (Room.low c.requires.asked.tree, omega arith)

pub word-distinct-requires : goal.word-distinct-requires
word-distinct-requires c = (Room.low c.requires.asked.tree, omega arith)

pub overflow_sub-less : goal.overflow_sub-less
overflow_sub-less c = omega (arith, Room.bounds c.requires.asked)

pub first_pass-p-requires : goal.first_pass-p-requires
first_pass-p-requires c =
    let l = Room.bounds c.requires.asked in
    record {
      counted = c.count-n.ensures.0;
      items = ReturnLaws.return_items c.args.r.now.roomy c.requires c.count-n.ensures.0;
      ready = c.requires.asked.ready;
      low = l.low;
      depth = omega (arith, l.shallow);
      stands = c.requires.asked.stands;
    }

pub second_pass-q-requires : goal.second_pass-q-requires
second_pass-q-requires c =
    let room = c.args.r.now.roomy in
    let l = Room.bounds c.requires.asked in
    record {
      counted = c.count-n.ensures.0;
      items = Room.some_trees (ReturnLaws.return_items room c.requires c.count-n.ensures.0);
      room = ReturnLaws.room_second room c.requires c.count-n.ensures.0 c.first_pass-p.ensures.lowered (omega (arith, l.shallow));
      low = l.low;
      depth = omega (arith, l.shallow);
    }

pub lower_trailers-requires : goal.lower_trailers-requires
lower_trailers-requires c =
    let room = c.args.r.now.roomy in
    let l = Room.bounds c.requires.asked in
    record {
      low = l.low;
      tail = ReturnLaws.return_tail room c.requires c.count-n.ensures.0 c.first_pass-p.ensures.lowered c.word-distinct.ensures (c.second_pass-q.ensures.lowered.0 _);
      ready = Room.ready_after (ReturnLaws.return_moved room c.requires c.count-n.ensures.0 c.first_pass-p.ensures.lowered c.word-distinct.ensures (c.second_pass-q.ensures.lowered.0 _)) c.requires.asked.ready;
      depth = omega (arith, l.shallow);
      stands = c.second_pass-q.ensures.lowered.1;
    }

pub returns-clause-lowered : goal.returns-clause-lowered
returns-clause-lowered c = ReturnLaws.return_law c.args.r.now.roomy c.requires c.count-n.ensures.0 c.first_pass-p.ensures.lowered c.word-distinct.ensures (c.second_pass-q.ensures.lowered.0 _) c.lower_trailers.ensures.lowered
