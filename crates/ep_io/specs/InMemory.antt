-- A source and a sink over memory, and what each of their calls does (this project's rule).
use Rattle.std.specs.Prelude.{ℕ, ◌-◌, ◌==◌, min, Bool, not, ◌&&◌, ◌||◌, if◌then◌else◌, List, [], ◌++◌, length, take}
use Rattle.std.specs.Prelude.{drop, bytes_eq}
use Rattle.std.specs.List.{list_any}
use Rattle.ep_io.specs.Faults.{counted}

-- the numbers of the calls that are to fail, the number of the next call, and the faults so far;
-- the number stays at the last value of a count, which is in no list of 32-bit numbers
pub record Calls : Type 0 where
  pub failing : List ℕ
  pub number : ℕ
  pub faults : ℕ

abbrev pub no_calls : List ℕ → Calls
no_calls failing = record { failing = failing; number = 0; faults = 0 }

-- the next call is to fail
abbrev pub is_to_fail : Calls → Bool
is_to_fail calls = list_any (λ k. k == calls.number) calls.failing

-- a call was made, and failed or not
abbrev pub after_call : Calls → Bool → Calls
after_call calls failed =
    record calls
    { number = counted calls.number; faults = if failed then counted calls.faults else calls.faults }

-- under its name stands its content; `chunk` is the most bytes that one read gives
pub record SourceInMemory : Type 0 where
  pub name : List ℕ
  pub content : List ℕ
  pub chunk : ℕ
  pub left : List ℕ
  pub calls : Calls

-- what stands under a name: under any other than its own nothing
abbrev pub bytes_under : List ℕ → List ℕ → List ℕ → List ℕ
bytes_under own content name = if bytes_eq name own then content else []

abbrev pub after_begin : SourceInMemory → List ℕ → SourceInMemory
after_begin source name =
    let fails = is_to_fail source.calls in
    record source {
      left = if fails then [] else bytes_under source.name source.content name;
      calls = after_call source.calls fails;
    }

-- how many bytes the next read gives, with room for so many
abbrev pub read_count : SourceInMemory → ℕ → ℕ
read_count source room =
    if is_to_fail source.calls then 0 else min room (min source.chunk (length source.left))

abbrev pub after_read : SourceInMemory → ℕ → SourceInMemory
after_read source room =
    record source {
      left = drop (read_count source room) source.left;
      calls = after_call source.calls (is_to_fail source.calls);
    }

-- it holds `room` bytes at most, and `chunk` is the most bytes that one write takes
pub record SinkInMemory : Type 0 where
  pub written : List ℕ
  pub room : ℕ
  pub chunk : ℕ
  pub calls : Calls

-- a write of so many bytes fails: it is to fail, or there is no room for any of them
abbrev pub is_refused : SinkInMemory → ℕ → Bool
is_refused sink count =
    is_to_fail sink.calls || (length sink.written == sink.room && not (count == 0))

-- how many of so many bytes the next write takes
abbrev pub write_count : SinkInMemory → ℕ → ℕ
write_count sink count =
    if is_refused sink count then 0 else min count (min sink.chunk (sink.room - length sink.written))

abbrev pub after_write : SinkInMemory → List ℕ → SinkInMemory
after_write sink piece =
    record sink {
      written = sink.written ++ take (write_count sink (length piece)) piece;
      calls = after_call sink.calls (is_refused sink (length piece));
    }
