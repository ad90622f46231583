use Rattle.camp_talk.proofs.Words.{AreHeldBy, AreNeeded, codes, names_answer, rules}
use Rattle.camp_talk.proofs.AnswerLemmas.{along_rendered, answer_rendered, answer_rendered_or_memory}
use Rattle.camp_talk.specs.QuestionAnswers.{annotated_answer, file_answer, graph_answer, marks_answer, open_answer, patch_answer, side_answer}
use Rattle.camp_questions.specs.Annotations.{AreAnnotated}
use Rattle.camp_questions.specs.Differences.{IsMissing}
use Rattle.camp_questions.specs.Files.{IsFile}
use Rattle.camp_questions.specs.Marks.{AreMarked}
use Rattle.camp_questions.specs.OpenConflicts.{AreUnresolved}
use Rattle.camp_questions.specs.Pictures.{IsPictured}
use Rattle.camp_questions.specs.Showing.{IsShown}
use Rattle.camp_questions.specs.Sides.{IsSide}
use Rattle.camp_talk.proofs.question_answers.answer_at.Goals as goal

pub returns-in-Needs : goal.returns-in-Needs
returns-in-Needs c =
    search (rules, answer_rendered (names_answer (codes "needs")) (AreNeeded c.args.state.now c.in-Needs.branch c.as_slice.result.now) c.needs.result c.render_found.result c.needs.ensures.exact c.render_found.ensures)

pub returns-in-Held : goal.returns-in-Held
returns-in-Held c =
    search (rules, answer_rendered (names_answer (codes "held")) (AreHeldBy c.args.state.now c.in-Held.branch c.as_slice-in-Held.result.now) c.held_by.result c.render_found-in-Held.result c.held_by.ensures.exact c.render_found-in-Held.ensures)

pub returns-in-Missing : goal.returns-in-Missing
returns-in-Missing c =
    search (rules, answer_rendered (names_answer (codes "missing")) (IsMissing c.args.state.now c.in-Missing.from c.in-Missing.to) c.missing.result c.render_found-in-Missing.result c.missing.ensures.exact c.render_found-in-Missing.ensures)

pub returns-in-Show : goal.returns-in-Show
returns-in-Show c =
    search (rules, answer_rendered patch_answer (IsShown c.args.state.now c.in-Show.branch c.in-Show.name) c.show.result c.render_shown.result c.show.ensures.exact c.render_shown.ensures)

pub returns-in-Annotate : goal.returns-in-Annotate
returns-in-Annotate c =
    search (rules, answer_rendered annotated_answer (AreAnnotated c.args.state.now c.in-Annotate.branch c.in-Annotate.path) c.annotate.result c.render_annotated.result c.annotate.ensures.exact c.render_annotated.ensures)

pub returns-in-Along : goal.returns-in-Along
returns-in-Along c =
    search (rules, along_rendered (names_answer (codes "along")) c.args.state.now c.in-Along.from c.in-Along.to c.as_slice-in-Along.result.now c.along.result c.render_found-in-Along.result c.along.ensures.exact c.render_found-in-Along.ensures)

pub returns-in-Open : goal.returns-in-Open
returns-in-Open c =
    search (rules, answer_rendered_or_memory open_answer (AreUnresolved c.args.state.now c.in-Open.branch) c.unresolved_pairs.result c.render_open.result c.unresolved_pairs.ensures.exact c.render_open.ensures)

pub returns-in-Side : goal.returns-in-Side
returns-in-Side c =
    search (rules, answer_rendered_or_memory side_answer (IsSide c.args.state.now c.in-Side.branch c.in-Side.name) c.side.result c.render_side.result c.side.ensures.exact c.render_side.ensures)

pub returns-in-Marks : goal.returns-in-Marks
returns-in-Marks c =
    search (rules, answer_rendered_or_memory marks_answer (AreMarked c.args.state.now c.in-Marks.branch c.in-Marks.path) c.marks.result c.render_marks.result c.marks.ensures.exact c.render_marks.ensures)

pub returns-in-File : goal.returns-in-File
returns-in-File c =
    search (rules, answer_rendered file_answer (IsFile c.args.state.now c.in-File.branch c.in-File.path) c.file.result c.render_file.result c.file.ensures.exact c.render_file.ensures)

pub returns-in-Graph : goal.returns-in-Graph
returns-in-Graph c =
    search (rules, answer_rendered_or_memory graph_answer (IsPictured c.args.state.now c.in-Graph.branch c.as_slice-in-Graph.result.now) c.picture_of.result c.render_graph.result c.picture_of.ensures.exact c.render_graph.ensures)
