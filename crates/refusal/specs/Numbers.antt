-- The number, the word and the layer of each reason for which a call is refused.
use Rattle.std.specs.Prelude.{List, ℕ, codes}
use Rattle.refusal.specs.declared.Reason.{Reason}
use Rattle.refusal.specs.declared.Reason.TheVariants.{Cut, LongForm, OverCount, Tail, OverSize, FileOverSize, FileCut, BadLine, Ended, Short, Parent, LastHeight, LogFull, NoCoinbase, Claim, Coinbase2, CbData, NoInput, NoOutput, Money, Under, Null, Missing, Immature, Shut, Exists, Full, Nothing, Parameter, NotEmpty, Started, NotStarted}
use Rattle.refusal.specs.declared.Layer.{Layer}
use Rattle.refusal.specs.declared.Layer.TheVariants as layer

abbrev pub number_of : Reason → ℕ
number_of Cut = 1
number_of LongForm = 2
number_of OverCount = 3
number_of Tail = 4
number_of OverSize = 5
number_of FileOverSize = 5
number_of FileCut = 6
number_of BadLine = 7
number_of Ended = 8
number_of Short = 9
number_of Parent = 10
number_of LastHeight = 11
number_of LogFull = 12
number_of NoCoinbase = 13
number_of Claim = 14
number_of Coinbase2 = 20
number_of CbData = 21
number_of NoInput = 22
number_of NoOutput = 23
number_of Money = 24
number_of Under = 25
number_of Null = 26
number_of Missing = 30
number_of Immature = 31
number_of Shut = 32
number_of Exists = 33
number_of Full = 34
number_of Nothing = 40
number_of Parameter = 41
number_of NotEmpty = 42
number_of Started = 43
number_of NotStarted = 44

abbrev pub word_of : Reason → List ℕ
word_of Cut = codes "cut"
word_of LongForm = codes "longform"
word_of OverCount = codes "overcount"
word_of Tail = codes "tail"
word_of OverSize = codes "oversize"
word_of FileOverSize = codes "oversize"
word_of FileCut = codes "filecut"
word_of BadLine = codes "line"
word_of Ended = codes "ended"
word_of Short = codes "short"
word_of Parent = codes "parent"
word_of LastHeight = codes "lastheight"
word_of LogFull = codes "logfull"
word_of NoCoinbase = codes "nocoinbase"
word_of Claim = codes "claim"
word_of Coinbase2 = codes "coinbase2"
word_of CbData = codes "cbdata"
word_of NoInput = codes "noinput"
word_of NoOutput = codes "nooutput"
word_of Money = codes "money"
word_of Under = codes "below"
word_of Null = codes "null"
word_of Missing = codes "missing"
word_of Immature = codes "immature"
word_of Shut = codes "shut"
word_of Exists = codes "exists"
word_of Full = codes "full"
word_of Nothing = codes "nothing"
word_of Parameter = codes "parameter"
word_of NotEmpty = codes "notempty"
word_of Started = codes "started"
word_of NotStarted = codes "notstarted"

abbrev pub layer_of : Reason → Layer
layer_of Cut = layer.Form
layer_of LongForm = layer.Form
layer_of OverCount = layer.Form
layer_of Tail = layer.Form
layer_of OverSize = layer.Form
layer_of FileOverSize = layer.File
layer_of FileCut = layer.File
layer_of BadLine = layer.Script
layer_of Ended = layer.File
layer_of Short = layer.Form
layer_of Parent = layer.Block
layer_of LastHeight = layer.Block
layer_of LogFull = layer.Block
layer_of NoCoinbase = layer.Block
layer_of Claim = layer.Block
layer_of Coinbase2 = layer.Transaction
layer_of CbData = layer.Transaction
layer_of NoInput = layer.Transaction
layer_of NoOutput = layer.Transaction
layer_of Money = layer.Transaction
layer_of Under = layer.Transaction
layer_of Null = layer.Transaction
layer_of Missing = layer.Input
layer_of Immature = layer.Input
layer_of Shut = layer.Input
layer_of Exists = layer.View
layer_of Full = layer.View
layer_of Nothing = layer.Ledger
layer_of Parameter = layer.Ledger
layer_of NotEmpty = layer.Ledger
layer_of Started = layer.Ledger
layer_of NotStarted = layer.Ledger
