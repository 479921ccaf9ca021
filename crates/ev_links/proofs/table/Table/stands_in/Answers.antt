use Rattle.std.proofs.Common.{◌≢◌, ap}
use Rattle.std.specs.HashMap.{hash_map_len}
use Rattle.ev_links.specs.Ties.{parent_at, walk, has}
use Rattle.ev_links.specs.Tables.{tie_in}
use Rattle.ev_links.proofs.Ways.{none_done, search_found, search_on, search_ended, search_over}
use Rattle.ev_links.proofs.table.Table.stands_in.Goals as goal

pub up-init : goal.up-init
up-init c = (c.len-end.ensures.value, rw (c.len-end.ensures.value, none_done) (ap (λ cursor. has (walk (parent_at (tie_in c.args.self.now)) (hash_map_len c.args.self.now.nodes) cursor) c.args.of) c.parent-cursor.ensures))

pub up-preserved : goal.up-preserved
up-preserved c =
    let differ : c.in-Some-2.at ≢ c.args.of = λ same. c.if-at-of.false (let first = c.in-Some.is in let again = c.in-Some-2.is in cc) in (
      c.up.invariant.0,
      rw c.parent-cursor-in-Some-2.ensures (search_on (parent_at (tie_in c.args.self.now)) c.up.counter c.len-end.result c.in-Some-2.at c.args.of _ c.up-test.true (rw (c.in-Some-2.is) at c.up.invariant.1) differ),
    )

pub returns-in-Some-clause-value : goal.returns-in-Some-clause-value
returns-in-Some-clause-value c =
    search_found (parent_at (tie_in c.args.self.now)) c.up.counter c.len-end.result c.in-Some.at c.args.of _ c.up-test.true (rw (c.in-Some.is) at c.up.invariant.1) c.if-at-of.true

pub returns-in-None-clause-value : goal.returns-in-None-clause-value
returns-in-None-clause-value c =
    search_ended (parent_at (tie_in c.args.self.now)) c.up.counter c.len-end.result c.args.of _ c.up-test.true (rw (c.in-None.is) at c.up.invariant.1)

pub returns-clause-value : goal.returns-clause-value
returns-clause-value c = search_over (parent_at (tie_in c.args.self.now)) c.up.counter c.len-end.result c.args.of c.up.cursor _ c.up-test.false c.up.invariant.1
