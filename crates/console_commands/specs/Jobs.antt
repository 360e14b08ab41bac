-- A job as a line writes it: "KIND KEY CARE X Y AL AW BL BW PL PW", AL and AW being A's lowest bit and width, and so on.
use Rattle.std.specs.Prelude.{ℕ, ◌%◌, ◌^◌, List}
use Rattle.machine.specs.Machine.{response_bits}
use Rattle.job_plans.specs.declared.Job.{Job}
use Rattle.text.specs.Rows.{number_at, byte_at}

-- number k of a row, as a response
abbrev pub response_at : List ℕ → ℕ → ℕ
response_at row k = number_at row k % 2 ^ response_bits

-- the job that a row's first eleven numbers say; its place is 0 and so is c
abbrev pub job_of : List ℕ → Job
job_of row =
    record {
      kind = byte_at row 0;
      key = response_at row 1;
      care = response_at row 2;
      x = record { 0 = byte_at row 3 };
      y = record { 0 = byte_at row 4 };
      a = record { low = record { 0 = byte_at row 5 }; width = byte_at row 6 };
      b = record { low = record { 0 = byte_at row 7 }; width = byte_at row 8 };
      p = record { low = record { 0 = byte_at row 9 }; width = byte_at row 10 };
      phase = 0;
      i = 0;
      j = 0;
      c = 0;
    }
