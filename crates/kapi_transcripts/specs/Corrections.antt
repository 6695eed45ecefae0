-- Rewriting an expectation, so that it expects the actual answer.
use Rattle.std.specs.Prelude.{ℕ, ◌==◌, nat_lt, Bool, not, ◌&&◌, if◌then◌else◌, List, ◌++◌, length, take, drop, codes, Option, Some, None}
use Rattle.std.specs.Char.{is_ascii_digit}
use Rattle.std.specs.List.{list_all}
use Rattle.kapi_lines.specs.Words.{begins}
use Rattle.kapi_transcripts.specs.Sent.{body_of, sent_of}
use Rattle.kapi_transcripts.specs.declared.wanted.Expected.{Expected}
use Rattle.kapi_transcripts.specs.declared.wanted.Expected.TheVariants as wants

-- the three digits that a text begins with, if it does
abbrev pub digits_in : List ℕ → Option (List ℕ)
digits_in text = if nat_lt (length text) 3 then None else (if list_all is_ascii_digit (take 3 text) then Some (take 3 text) else None)

-- the code of a reply: the three digits behind its version (RFC 9112, section 4)
abbrev pub code_in : List ℕ → Option (List ℕ)
code_in bytes = if begins bytes (codes "HTTP/1.1 ") then digits_in (drop 9 bytes) else None

-- the text stands on one line
abbrev pub is_line : List ℕ → Bool
is_line text = list_all (λ b. not (b == 10) && not (b == 13)) text

abbrev pub if_line : Option (List ℕ) → Option (List ℕ)
if_line None = None
if_line (Some text) = if is_line text then Some text else None

-- the body of a reply, if it stands on one line
abbrev pub body_in : List ℕ → Option (List ℕ)
body_in bytes = if begins bytes (codes "HTTP/1.1 ") then if_line (body_of bytes) else None

abbrev pub signed : List ℕ → List ℕ → List ℕ
signed sign word = sign ++ word

-- the line that wants exactly this answer
abbrev pub exactly : List ℕ → List ℕ
exactly answer = signed (codes "> ") answer

-- a sign and a word, or the line that wants exactly this answer, if there is no word
abbrev pub word_or : List ℕ → Option (List ℕ) → List ℕ → List ℕ
word_or sign None answer = exactly answer
word_or sign (Some word) answer = signed sign word

-- the line that wants what was sent: its code or its body, if that was wanted and is there, and else exactly the answer
abbrev pub corrected_by : Expected → List ℕ → List ℕ → List ℕ
corrected_by (wants.Reply code text) bytes answer = word_or (codes "= ") (code_in bytes) answer
corrected_by (wants.Body text) bytes answer = word_or (codes "== ") (body_in bytes) answer
corrected_by wanted bytes answer = exactly answer

-- the line that wants what came; exactly the answer, if it sent nothing
abbrev pub corrected_if : Expected → Option (List ℕ) → List ℕ → List ℕ
corrected_if wanted None answer = exactly answer
corrected_if wanted (Some bytes) answer = corrected_by wanted bytes answer

-- the line that expects the actual answer, in the form of the original expectation if this form can state it
abbrev pub corrected : Expected → List ℕ → List ℕ
corrected wanted answer = corrected_if wanted (sent_of answer) answer
