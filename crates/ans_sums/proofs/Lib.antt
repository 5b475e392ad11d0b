pub mod SizeLines
