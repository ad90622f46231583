use Rattle.std.proofs.Common.{refl}
use Rattle.camp_talk.proofs.Growing.{command_grows}
use Rattle.camp_kept_talk.proofs.conversations.StoredConversationBackendCommandResponse.execute.Goals as goal

pub returns : goal.returns
returns g c = (
  record { same = refl; grows = command_grows _ c.args.command c.execute_command.result _ c.execute_command.ensures.executes },
  c.execute_command.ensures.executes,
)
