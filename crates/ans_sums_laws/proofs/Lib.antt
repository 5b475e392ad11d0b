pub mod SumsTell
