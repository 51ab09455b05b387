mod FourDigits
