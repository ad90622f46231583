use Rattle.std.proofs.Common.{◌≡◌, List, arith, length, subst, sym}
use Rattle.camp_commits.specs.declared.commits.TreeCommit.{TreeCommit}
use Rattle.camp_transfer.proofs.ReadingLemmas.{IsReadSoFar, ends_counted, ends_here, nothing_read, one_more_read}
use Rattle.camp_transfer.specs.Inside.Reading.{GivesNext}
use Rattle.camp_transfer.specs.declared.reading.Found.{Found}
use Rattle.camp_transfer.proofs.reading.read_commits.Goals as goal

pub commands-init : goal.commands-init
commands-init c =
    let announced = c.announces_done-announced.result in
    subst (λ (commits : List TreeCommit). IsReadSoFar announced c.args.known c.args.stream.now 0 c.args.known c.args.stream.now commits) (sym c.new-commits.ensures.items)
    (nothing_read announced c.args.known c.args.stream.now)

pub commands-preserved : goal.commands-preserved
commands-preserved c =
    let announced = c.announces_done-announced.result in
    let commands = c.commands in
    let next = c.in-Next in
    let applies = subst (λ (found : Found). GivesNext announced commands.objects commands.rest.now found) next.is c.in_ok-after.ensures in
    one_more_read announced c.args.known c.args.stream.now commands.counter commands.objects next.after commands.rest.now next.left.now commands.commits.items c.in_ok-commits-in-Next.commits.items next.made commands.invariant applies c.in_ok-commits-in-Next.ensures

pub returns-in-End : goal.returns-in-End
returns-in-End c =
    let announced = c.announces_done-announced.result in
    let commands = c.commands in
    let ends = subst (λ (found : Found). GivesNext announced commands.objects commands.rest.now found) c.in-End.is c.in_ok-after.ensures in
    record {
      exact = ends_here announced c.args.known c.args.stream.now commands.counter commands.rest.now _ c.announces_done-announced.ensures commands.invariant ends;
    }

pub returns : goal.returns
returns c =
    let commands = c.commands in
    let long : commands.counter ≡ length c.args.stream.now = omega (arith, commands.auto.counter-end, c.commands-test.false) in
    record {
      exact = ends_counted c.announces_done-announced.result c.args.known c.args.stream.now commands.counter commands.rest.now _ c.announces_done-announced.ensures long commands.invariant c.end_of_bytes.ensures;
    }
