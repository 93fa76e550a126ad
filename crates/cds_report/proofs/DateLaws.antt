-- The date of a moment is the one that the library makes of its seconds.
use Rattle.std.proofs.Common.{◌≡◌, ℕ, zero, suc, ◌+◌, ◌-◌, ◌*◌, ◌/◌, ◌%◌, ◌<◌, ◌≤◌, true, false, refl, sym, ap, ◌∙◌, arith}
use Rattle.std.specs.Prelude.{nat_le}
use Rattle.std.proofs.lemmas.Bool.Decides.{nat_tests}
use Rattle.httpdate.specs.Calendar.{days_of_years, days_of_months, days_from_civil, IsCivilDate}
use Rattle.httpdate.specs.Date.{unix_secs, date_text}
use Rattle.httpdate.specs.Text.{imf_fixdate}
use Rattle.httpdate.specs.declared.date.HttpDate.{HttpDate}
use Rattle.httpdate.proofs.CalendarLemmas.{days_from_civil_year, days_from_civil_month}
use Rattle.cds_base.proofs.SearchLaws.{greatest-is}
use Rattle.cds_report.specs.Dates.{years_before, months_before, parts_of_day, date_of}

-- more years have no fewer days
days_of_years-le : (n k : ℕ) → days_of_years n ≤ days_of_years (n + k)
unfolding days_of_years
days_of_years-le n zero = let same : n + 0 ≡ n = omega arith in rw same (omega arith)
days_of_years-le n (suc k) =
    let before = days_of_years-le n k in
    let next : n + suc k ≡ suc (n + k) = omega arith in
    rw next (omega arith)

-- more months have no fewer days
days_of_months-le : (y m k : ℕ) → days_of_months y m ≤ days_of_months y (m + k)
unfolding days_of_months
days_of_months-le y m zero = let same : m + 0 ≡ m = omega arith in rw same (omega arith)
days_of_months-le y m (suc k) =
    let before = days_of_months-le y m k in
    let next : m + suc k ≡ suc (m + k) = omega arith in
    rw next (omega arith)

-- a number above another doesn't pass
nat_le-false : (a b : ℕ) → b < a → nat_le a b ≡ false
nat_le-false a b h = grind (arith, nat_tests)

nat_le-true : (a b : ℕ) → a ≤ b → nat_le a b ≡ true
nat_le-true a b h = grind (arith, nat_tests)

-- the whole years before a day of the calendar are those up to its own
years_before-is : (y m d : ℕ) → IsCivilDate y m d → years_before (days_from_civil y m d) ≡ y - 1970
unfolding days_of_months
years_before-is y m d civil =
    let next = days_from_civil_year y m d (y + 1) 1 1 civil (omega arith) in
    greatest-is _ 8029 (y - 1970) (omega (arith, civil.0.1)) (nat_le-true _ _ (omega arith))
    (λ k above most.
    let up = days_of_years-le (y + 1 - 1970) (k - (y + 1 - 1970)) in
    let same : (y + 1 - 1970) + (k - (y + 1 - 1970)) ≡ k = omega (arith, civil.0.0) in
    nat_le-false _ _ (omega (arith, next, rw same at up)))

-- the whole months before a day of its year are those up to its own
months_before-is : (y m d : ℕ) → IsCivilDate y m d → months_before y (days_of_months y (m - 1) + (d - 1)) ≡ m - 1
months_before-is y m d civil =
    greatest-is _ 11 (m - 1) (omega (arith, civil.1.1)) (nat_le-true _ _ (omega arith))
    (λ k above most.
    let next = days_from_civil_month y m d (k + 1) 1 civil (omega (arith, civil.1.0)) in
    let same : k + 1 - 1 ≡ k = omega arith in
    nat_le-false _ _ (omega (arith, rw same at next)))

-- the day and the second of the day are those of the seconds
day_of : (days h m s : ℕ) → h < 24 → m < 60 → s < 60 → (days * 86400 + h * 3600 + m * 60 + s) / 86400 ≡ days
day_of days h m s a b c = omega arith

second_of : (days h m s : ℕ) → h < 24 → m < 60 → s < 60
    → (days * 86400 + h * 3600 + m * 60 + s) % 86400 ≡ h * 3600 + m * 60 + s
second_of days h m s a b c = omega arith

-- the parts of a day and of a second of it are those of a date
parts_of_day-is : (d : HttpDate)
    → parts_of_day (days_from_civil d.parts.year d.parts.mon d.parts.day)
    (d.parts.hour * 3600 + d.parts.min * 60 + d.parts.sec) ≡ d.parts
parts_of_day-is d =
    let p = d.parts in
    let second = p.hour * 3600 + p.min * 60 + p.sec in
    let years = years_before-is p.year p.mon p.day d.civil in
    let year : 1970 + (p.year - 1970) ≡ p.year = omega (arith, d.civil.0.0) in
    let rest : days_from_civil p.year p.mon p.day - days_of_years (p.year - 1970)
    ≡ days_of_months p.year (p.mon - 1) + (p.day - 1) = omega arith in
    let months = months_before-is p.year p.mon p.day d.civil in
    let mon : p.mon - 1 + 1 ≡ p.mon = omega (arith, d.civil.1.0) in
    let day : days_of_months p.year (p.mon - 1) + (p.day - 1) - days_of_months p.year (p.mon - 1) + 1 ≡ p.day =
    omega (arith, d.civil.2.0) in
    let hour : second / 3600 ≡ p.hour = omega (arith, d.time) in
    let min : second % 3600 / 60 ≡ p.min = omega (arith, d.time) in
    let sec : second % 60 ≡ p.sec = omega (arith, d.time) in
    rw (years, year, rest, months, mon, day, hour, min, sec, ← d.right_day) refl

-- the date of a moment is the text of the date with these seconds
pub date_of_is : (d : HttpDate) (moment : ℕ) → unix_secs d ≡ moment → date_text d ≡ date_of moment
date_of_is d moment same =
    let p = d.parts in
    let days = days_from_civil p.year p.mon p.day in
    let t = d.time in
    let day = day_of days p.hour p.min p.sec t.0 t.1 t.2 in
    let second = second_of days p.hour p.min p.sec t.0 t.1 t.2 in
    ap imf_fixdate (sym (
    ap (λ (n : ℕ). parts_of_day (n / 86400) (n % 86400)) (sym same)
    ∙ ap (λ (n : ℕ). parts_of_day n (unix_secs d % 86400)) day
    ∙ ap (parts_of_day days) second
    ∙ parts_of_day-is d
    ))
