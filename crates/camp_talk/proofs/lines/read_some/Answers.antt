use Rattle.camp_talk.proofs.Words.{◌≡◌, ◌∙◌, ◌==◌, ◌+◌, ◌++◌, ◌≤◌, [], min, length, take, sym, ap, subst, arith, position_or_len, Consumes, Takes, feed_of, seen_of, Seen, Consumes-nil, Consumes-kept}
use Rattle.std.specs.Io.BufRead.{FillKeeps}
use Rattle.std.proofs.BufReadLemmas.{Consumes_shown}
use Rattle.camp_talk.proofs.LineReads.{none_taken, shown_taken, taken_within}
use Rattle.camp_talk.proofs.lines.read_some.Goals as goal

pub returns-in-Err-clause-some : goal.returns-in-Err-clause-some
returns-in-Err-clause-some g c =
    none_taken _ _ c.args.capacity c.args.text.now.items
    (Consumes-kept _ _ _ [] (Consumes-nil _) c.fill_buf.follows.holds-at-none.0)

pub returns-clause-some : goal.returns-clause-some
returns-clause-some g c =
    let a = g.R.Read.remaining c.args.reader.now in
    let b = g.R.Read.remaining c.consume.new.self in
    let shown = c.in-Ok.shown.now in
    let old = c.args.text.now.items in
    let new = c.hold.new.text.items in
    let before = position_or_len (λ byte. byte == 10) shown in
    let place : c.line_len-len.result ≡ before = c.line_len-len.ensures.place in
    let met : c.seen_of-seen.result ≡ seen_of (length shown) before =
    c.seen_of-seen.ensures ∙ ap (seen_of (length shown)) place in
    let taken : c.taken_len-taken.result ≡ before + length (feed_of (seen_of (length shown) before)) =
    c.taken_len-taken.ensures ∙ ap (λ n. n + length (feed_of c.seen_of-seen.result)) place
    ∙ ap (λ (seen : Seen). before + length (feed_of seen)) met in
    let most : before ≤ length shown = omega (arith, place, c.line_len-len.ensures.within) in
    let within : c.taken_len-taken.result ≤ length shown = omega (arith, taken, taken_within (length shown) before most) in
    let rested = c.fill_buf.follows.lender-at-none in
    let filled = subst (FillKeeps _ (g.R.Read.remaining rested) (g.R.BufRead.consumable_len rested)) c.in-Ok.is
    c.fill_buf.follows.holds-at-none in
    let moved = Consumes_shown _ _ _ _ shown c.taken_len-taken.result within c.in-Ok.ensures.front c.in-Ok.ensures.end filled.0
    filled.1 c.consume.ensures.bytes in
    let held : c.min-held.result ≡ min before c.args.capacity = omega (arith, place, c.min-held.ensures) in
    let grows : new ≡ old ++ take (min before c.args.capacity) shown =
    c.in_ok-hold.ensures.items ∙ ap (λ n. old ++ take n shown) held in
    subst (λ (seen : Seen). Takes a b c.args.capacity seen old new) (sym met)
    (shown_taken a b c.args.capacity shown old new grows (subst (λ n. Consumes a b (take n shown)) taken moved.0) moved.1)
