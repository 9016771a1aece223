-- The lines that refusals are written as.
use Rattle.std.specs.Prelude.{ℕ, List, ◌++◌, codes, decimal}
use Rattle.aq_term.specs.Rule.{word_of}
use Rattle.aq_base.specs.declared.refusal.ReadKind.{ReadKind}
use Rattle.aq_base.specs.declared.refusal.ReadKind.TheVariants as read
use Rattle.aq_base.specs.declared.refusal.FormKind.{FormKind}
use Rattle.aq_base.specs.declared.refusal.FormKind.TheVariants as form
use Rattle.aq_base.specs.declared.refusal.LimitKind.{LimitKind}
use Rattle.aq_base.specs.declared.refusal.LimitKind.TheVariants as limit
use Rattle.aq_base.specs.declared.refusal.Refusal.{Refusal}
use Rattle.aq_base.specs.declared.refusal.Refusal.TheVariants as refusal

abbrev pub read_word : ReadKind → List ℕ
read_word read.Depth = codes "depth"
read_word read.Syntax = codes "syntax"
read_word read.IntegerRange = codes "integer range"
read_word read.Arity = codes "arity"

abbrev pub form_word : FormKind → List ℕ
form_word form.Directive = codes "directive"
form_word form.Head = codes "head"
form_word form.Body = codes "body"

abbrev pub limit_word : LimitKind → List ℕ
limit_word limit.Arity = codes "arity"
limit_word limit.Branch = codes "branch"
limit_word limit.Variables = codes "variables"
limit_word limit.Slots = codes "slots"
limit_word limit.Nodes = codes "nodes"
limit_word limit.Total = codes "total"

-- what is said of a clause
abbrev pub of_clause : ℕ → List ℕ → List ℕ
of_clause clause words = codes "clause " ++ (decimal clause ++ (codes ": " ++ words))

-- what is refused, without the front and the new line of its line
abbrev pub reason_of : Refusal → List ℕ
reason_of refusal.InputLength = codes "input length"
reason_of (refusal.Token clause at) = codes "clause " ++ (decimal clause ++ (codes ": token at " ++ decimal at))
reason_of (refusal.Read clause kind) = of_clause clause (read_word kind)
reason_of (refusal.Form clause kind) = of_clause clause (form_word kind)
reason_of (refusal.Limit clause kind) = codes "clause " ++ (decimal clause ++ (codes ": limit " ++ limit_word kind))
reason_of refusal.NoEntry = codes "no entry"
reason_of (refusal.EntryUndefined clause) = of_clause clause (codes "entry undefined")
reason_of refusal.QuerySyntax = codes "query syntax"
reason_of refusal.NotEntry = codes "query not entry"
reason_of (refusal.QueryMode argument) = codes "query mode " ++ decimal argument
reason_of (refusal.Text line) = codes "line " ++ decimal line
reason_of (refusal.Reject proc line rule) =
    codes "proc " ++ (decimal proc ++ (codes " line " ++ (decimal line ++ (codes ": " ++ word_of rule))))
reason_of (refusal.Undefined import) = codes "import " ++ (decimal import ++ codes ": undefined")
reason_of (refusal.PartText part line) = codes "part " ++ (decimal part ++ (codes " line " ++ decimal line))
reason_of (refusal.PartReject part proc line rule) =
    codes "part " ++ (decimal part ++ (codes " proc " ++ (decimal proc ++ (codes " line " ++ (decimal line ++ (codes ": " ++ word_of rule))))))
reason_of (refusal.JoinName proc) = codes "join name " ++ decimal proc
reason_of (refusal.JoinImport import) = codes "join import " ++ decimal import
reason_of refusal.Unsupported = codes "unsupported"

-- the whole line of a refusal
abbrev pub line_of : Refusal → List ℕ
line_of r = codes "refused: " ++ (reason_of r ++ codes "\n")
