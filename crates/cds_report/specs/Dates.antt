-- The date of a moment, as it is told to a client: in the form that RFC 9110 asks for, by the Gregorian calendar.
use Rattle.std.specs.Prelude.{ℕ, ◌+◌, ◌-◌, ◌/◌, ◌%◌, nat_le, List}
use Rattle.cds_base.specs.Search.{greatest}
use Rattle.httpdate.specs.Calendar.{days_of_years, days_of_months, weekday}
use Rattle.httpdate.specs.Text.{imf_fixdate}
use Rattle.httpdate.specs.declared.parts.Parts.{Parts}

-- how many whole years lie between the beginning of 1970 and a day, of which there are so many before it; no moment is
-- behind the year 9999
abbrev pub years_before : ℕ → ℕ
years_before days = greatest (λ years. nat_le (days_of_years years) days) 8029

-- how many whole months of its year lie before a day
abbrev pub months_before : ℕ → ℕ → ℕ
months_before year days = greatest (λ months. nat_le (days_of_months year months) days) 11

-- the parts of the day before which there are so many days since the beginning of 1970, and of a second of it
abbrev pub parts_of_day : ℕ → ℕ → Parts
parts_of_day days second =
    let year : ℕ = 1970 + years_before days in
    let days_of_year : ℕ = days - days_of_years (years_before days) in
    let months : ℕ = months_before year days_of_year in
    record {
      year = year;
      mon = months + 1;
      day = days_of_year - days_of_months year months + 1;
      hour = second / 3600;
      min = second % 3600 / 60;
      sec = second % 60;
      wday = weekday days;
    }

-- the date of a moment, in seconds since the beginning of 1970
abbrev pub date_of : ℕ → List ℕ
date_of moment = imf_fixdate (parts_of_day (moment / 86400) (moment % 86400))
