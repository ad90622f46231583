use Rattle.std.proofs.Common.{◌≡◌, ◌∙◌, ◌≤◌, ◌∷◌, [], List, ℕ, ap, subst, sym}
use Rattle.camp_kept.specs.Faults.{IsTitleFault}
use Rattle.camp_kept.specs.Persisting.{max_untitled_len}
use Rattle.camp_kept.specs.Titles.{title_of}
use Rattle.camp_kept.proofs.Opening.{still_untitled, titled_or_not}
use Rattle.camp_kept.proofs.Refusing.{title_ends, title_is_not_appended}
use Rattle.camp_store.specs.Logs.{IsAppendFault, IsBeforeOrAfter, disk_of, end_offset, texts_of}
use Rattle.camp_kept.proofs.openings.append_title.Goals as goal

pub returns-in-Ok-clause-crash : goal.returns-in-Ok-clause-crash
returns-in-Ok-clause-crash g c persists short f now =
    let limits = c.args.limits in
    let title : texts_of c.deref.result.now ≡ title_of limits ∷ [] = ap texts_of c.deref.ensures.value ∙ c.in-Ok.ensures.title in
    let left : g.D.Disk.may_leave (disk_of c.append.new.self) f = subst (λ d. g.D.Disk.may_leave d f) c.into_disk.ensures now in
    let ends : end_offset c.args.log (texts_of c.deref.result.now) ≤ max_untitled_len =
    subst (λ (ts : List (List ℕ)). end_offset c.args.log ts ≤ max_untitled_len) (sym title) (title_ends g.D.Disk.seen g.D.Disk.may_leave limits c.in-Ok.ensures.range c.args.log persists) in
    titled_or_not limits f (c.append.ensures.long [] persists max_untitled_len short ends f left)
    (subst (λ ts. IsBeforeOrAfter [] ts f) title (c.append.ensures.crash [] persists f left))

pub returns-in-Ok-clause-untitled : goal.returns-in-Ok-clause-untitled
returns-in-Ok-clause-untitled g c persists may =
    let title : texts_of c.deref.result.now ≡ title_of c.args.limits ∷ [] = ap texts_of c.deref.ensures.value ∙ c.in-Ok.ensures.title in
    subst (λ fault. IsTitleFault fault) (sym c.into.ensures)
    (title_is_not_appended g.D.Disk.seen g.D.Disk.may_leave g.D.Disk.is_usable c.args.limits c.in-Ok.ensures.range c.args.log c.in-Err-append.fault persists may
    (subst (λ ts. IsAppendFault g.D.Disk.is_usable c.args.log ts c.in-Err-append.fault) title c.in-Err-append.ensures.refused))

pub returns-clause-crash : goal.returns-clause-crash
returns-clause-crash g c persists short f now =
    still_untitled g.D.Disk.seen g.D.Disk.may_leave c.args.limits c.args.log persists short f (subst (λ d. g.D.Disk.may_leave d f) c.into_disk-in-Err.ensures now)
