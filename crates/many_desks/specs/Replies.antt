-- What desks reply to their commands.
use Rattle.std.specs.Prelude.{◌≡◌, List, [], ◌∷◌}

module _ {S C R : Type 0} (steps : C → S → R → S → Type 0) where
  -- these are the replies to commands, from a state to another: each command is a step
  abbrev pub AreReplies : List C → S → List R → S → Type 0
  AreReplies [] before [] after = before ≡ after
  AreReplies (command ∷ commands) before (reply ∷ replies) after =
      (between : S) × steps command before reply between × AreReplies commands between replies after
  AreReplies commands before replies after = ⊥

  -- a desk that starts in this state has these replies to commands
  abbrev pub Replies : S → List C → List R → Type 0
  Replies first commands replies = (last : S) × AreReplies commands first replies last
