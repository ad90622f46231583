use Rattle.camp_history.proofs.Seeing.{sees_further_more, sees_further_self}
use Rattle.camp_history.proofs.heads.Head.install_longest.Goals as goal

pub loop-link-init : goal.loop-link-init
loop-link-init g c = record { sees_further = sees_further_self c.args.self.now c.args.seat.now c.requires.of; leads = c.requires.leads }

pub loop-link-preserved : goal.loop-link-preserved
loop-link-preserved g c = record { sees_further = sees_further_more c.loop-link.invariant.sees_further c.in_ok-install_at.ensures.sees_further; leads = c.in_ok-install_at.ensures.leads }

pub returns-in_err-install_at-clause-sees_further : goal.returns-in_err-install_at-clause-sees_further
returns-in_err-install_at-clause-sees_further g c = sees_further_more c.loop-link.invariant.sees_further c.in_err-install_at.ensures.sees_further

pub returns-then-branch-clause-sees_further : goal.returns-then-branch-clause-sees_further
returns-then-branch-clause-sees_further g c = sees_further_more c.loop-link.invariant.sees_further c.in_ok-install_at.ensures.sees_further
