-- When the planner says no: the table's numbers and words. No refusal has the number 10.
use Rattle.std.specs.Prelude.{ℕ, List, [], ◌∷◌}

pub data Refusal : Type 0 where
  short version counts layout field apart counts_fail stuck no_retiming room hand negative slow token unbalanced : Refusal

abbrev pub number : Refusal → ℕ
number short = 1
number version = 2
number counts = 3
number layout = 4
number field = 5
number apart = 6
number counts_fail = 7
number stuck = 8
number no_retiming = 9
number room = 11
number hand = 12
number negative = 13
number slow = 14
number token = 15
number unbalanced = 16

-- The words as bytes: each line spells the name of its case.
abbrev pub word : Refusal → List ℕ
word short = 115 ∷ 104 ∷ 111 ∷ 114 ∷ 116 ∷ []
word version = 118 ∷ 101 ∷ 114 ∷ 115 ∷ 105 ∷ 111 ∷ 110 ∷ []
word counts = 99 ∷ 111 ∷ 117 ∷ 110 ∷ 116 ∷ 115 ∷ []
word layout = 108 ∷ 97 ∷ 121 ∷ 111 ∷ 117 ∷ 116 ∷ []
word field = 102 ∷ 105 ∷ 101 ∷ 108 ∷ 100 ∷ []
word apart = 97 ∷ 112 ∷ 97 ∷ 114 ∷ 116 ∷ []
word counts_fail = 99 ∷ 111 ∷ 117 ∷ 110 ∷ 116 ∷ 115 ∷ 45 ∷ 102 ∷ 97 ∷ 105 ∷ 108 ∷ []
word stuck = 115 ∷ 116 ∷ 117 ∷ 99 ∷ 107 ∷ []
word no_retiming = 110 ∷ 111 ∷ 45 ∷ 114 ∷ 101 ∷ 116 ∷ 105 ∷ 109 ∷ 105 ∷ 110 ∷ 103 ∷ []
word room = 114 ∷ 111 ∷ 111 ∷ 109 ∷ []
word hand = 104 ∷ 97 ∷ 110 ∷ 100 ∷ []
word negative = 110 ∷ 101 ∷ 103 ∷ 97 ∷ 116 ∷ 105 ∷ 118 ∷ 101 ∷ []
word slow = 115 ∷ 108 ∷ 111 ∷ 119 ∷ []
word token = 116 ∷ 111 ∷ 107 ∷ 101 ∷ 110 ∷ []
word unbalanced = 117 ∷ 110 ∷ 98 ∷ 97 ∷ 108 ∷ 97 ∷ 110 ∷ 99 ∷ 101 ∷ 100 ∷ []
