use Rattle.std.proofs.Common.{◌∙◌, None, length, ap}
use Rattle.camp_kept.proofs.Committing.{counted}
use Rattle.camp_kept.proofs.Listing.{legal_alone}
use Rattle.camp_kept.proofs.Refusing.{refused_at_once}
use Rattle.camp_kept.specs.Accepting.{accepted_of}
use Rattle.camp_store.specs.Logs.{texts_of}
use Rattle.camp_kept.proofs.inspections.inspect.Goals as goal

pub returns-in_err-reading-clause-refused : goal.returns-in_err-reading-clause-refused
returns-in_err-reading-clause-refused c =
    refused_at_once None c.from_residual.result c.in_err-reading.field-0.0 c.args.bytes.now c.from_residual.ensures.1 c.in_err-reading.ensures.fault c.in_err-reading.ensures.damaged

pub returns-clause-decoded : goal.returns-clause-decoded
returns-clause-decoded c = record {
  stored = accepted_of c.in_ok-book.book c.in_ok-book.notes;
  accepted = record {
    range = c.in_ok-book.ensures.recovered.range;
    can = c.in_ok-book.ensures.recovered.can;
    legal = legal_alone c.in_ok-book.book c.history.ensures.first c.history.ensures.legal;
  };
  texts = texts_of c.in_ok-reading.reading.texts.items;
  are = c.in_ok-book.ensures.recovered.are;
  count_is = ap length c.history.ensures.value ∙ counted c.in_ok-book.book.calls;
  notes_are = ap length c.placed.ensures.exact;
  digest_is = c.in_ok-reading.ensures.reading.digest_is;
  leaves = c.torn_tail_len.ensures c.args.bytes.now c.in_ok-reading.ensures.reading c.in_ok-book.ensures.short;
}
