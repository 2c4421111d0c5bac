-- What a BEGIN leaves of an own list.
use Rattle.std.proofs.Common.{◌≡◌, List, [], sym, ◌∙◌}
use Rattle.lake_model.specs.declared.call.CallReply.{CallReply}
use Rattle.lake_model.specs.declared.call.CallReply.TheVariants as reply
use Rattle.lake_model.specs.declared.change.Change.{Change}
use Rattle.session.specs.Turns.{own_after}

-- nothing was open, so no change is there before nor after it
pub none_begun : (r : CallReply) (own own' : List Change) → own ≡ [] → own' ≡ [] → own' ≡ own_after r [] own
none_begun (reply.Lost cause) own own' before after = after ∙ sym before
none_begun (reply.Base n) own own' before after = after
none_begun (reply.NotKept first head) own own' before after = after
none_begun (reply.Snapshot n) own own' before after = after
none_begun (reply.Clash c) own own' before after = after
none_begun reply.Done own own' before after = after
none_begun (reply.Pinned base) own own' before after = after
none_begun (reply.Listed rows) own own' before after = after
