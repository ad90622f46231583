use Rattle.camp_history.proofs.Words.{sym, ◌∙◌, subst, SeesFurther}
use Rattle.camp_history.proofs.Seeing.{sees_further_more, sees_further_self}
use Rattle.camp_history.proofs.heads.Head.see_all.Goals as goal

pub returns-in_err-trail-clause-sees_further : goal.returns-in_err-trail-clause-sees_further
returns-in_err-trail-clause-sees_further g c = subst (SeesFurther c.args.self.now c.args.seat.now) (sym c.walk.ensures.same) (sees_further_self c.args.self.now c.args.seat.now c.requires)

pub returns-in_err-install_longest-clause-sees_further : goal.returns-in_err-install_longest-clause-sees_further
returns-in_err-install_longest-clause-sees_further g c = rw c.walk.ensures.same at c.in_err-install_longest.ensures.sees_further

pub loop-next-init : goal.loop-next-init
loop-next-init g c = record { sees_further = rw c.walk.ensures.same at c.in_ok-install_longest.ensures.sees_further; leads = c.in_ok-install_longest.ensures.leads }

pub returns-in_err-see-clause-sees_further : goal.returns-in_err-see-clause-sees_further
returns-in_err-see-clause-sees_further g c = sees_further_more c.loop-next.invariant.sees_further (rw c.in-Some.ensures.same at c.in_err-see.ensures.sees_further)

pub loop-next-preserved : goal.loop-next-preserved
loop-next-preserved g c =
    let past = c.loop-next.invariant in
    let sees = c.in_ok-see.ensures in
    let leads = c.in-Some.ensures.leads in
    record {
      sees_further = sees_further_more past.sees_further (rw c.in-Some.ensures.same at sees.sees_further);
      leads = rw (rw c.in-Some.ensures.same at sees.known) (record { left = leads.left; is = leads.is; cells = leads.cells });
    }

pub returns-clause-sees_further : goal.returns-clause-sees_further
returns-clause-sees_further g c =
    subst (SeesFurther c.args.self.now c.args.seat.now) (sym (c.compact.ensures ∙ c.in_default.ensures.same)) c.loop-next.invariant.sees_further
