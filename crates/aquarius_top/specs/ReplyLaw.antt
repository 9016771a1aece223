-- The reply to a query on a text of rules is one.
use Rattle.std.specs.Prelude.{◌≡◌, ℕ, List}
use Rattle.source_meaning.specs.Program.{Name}
use Rattle.aq_base.specs.declared.limits.Limits.{Limits}
use Rattle.aq_base.specs.declared.status.Status.{Status}
use Rattle.aquarius_top.specs.Chosen.{IsSupported}
use Rattle.aquarius_top.specs.Reply.{RunReply}

abbrev pub RepliesAreOne : Type 0
RepliesAreOne = (query : Name) (limits : Limits) (text : List ℕ) → IsSupported query text
    → (some other : List ℕ) (first second : Status)
    → RunReply query limits text some first → RunReply query limits text other second → (some ≡ other) × (first ≡ second)
